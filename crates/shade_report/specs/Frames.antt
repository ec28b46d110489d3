-- What a report reads of the words of an instance.
use Rattle.std.specs.Prelude.{◌≡◌, List, length}
use Rattle.std.specs.List.{flat_map}
use Rattle.shade_report.specs.declared.instance.OpenFrame.{OpenFrame}
use Rattle.shade_core.specs.Frames.{Frame, frame_words, frame_length}
use Rattle.shade_report.specs.RunReport.{frames_of}

-- a frame whose counts are borrowed
abbrev pub frame_seen : OpenFrame → Frame
frame_seen f = record { function = f.function; statement = f.statement; turns = f.turns.now }

-- Frames are read from the words that they write, so that words tell one list of frames, and each writes as many as the limit on instances
-- counts.
pub record FramesAreRead : Type 0 where
  pub read : (frames : List Frame) → frames_of (flat_map frame_words frames) ≡ frames
  pub one : (frames others : List Frame) → flat_map frame_words frames ≡ flat_map frame_words others → frames ≡ others
  pub lengths : (f : Frame) → length (frame_words f) ≡ frame_length (length f.turns)
