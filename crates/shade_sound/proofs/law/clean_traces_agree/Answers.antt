use Rattle.shade_sound.proofs.Converges.{traces}
use Rattle.shade_sound.proofs.law.clean_traces_agree.Goals as goal

pub returns : goal.returns
returns c = traces
