-- What a book is seen as: the cells of its roots' words, the roots' spaces, and the epochs.
use Rattle.std.specs.Prelude.{map}
use Rattle.shade_race.specs.declared.book.RaceBook.{RaceBook}
use Rattle.shade_race.specs.History.{Book}
use Rattle.shade_race.specs.Roots.{seen_root}

abbrev pub seen : RaceBook → Book
seen book = record { roots = map seen_root book.roots.items; epochs = book.epochs }
