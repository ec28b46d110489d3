-- The numbers that a walk over tokens keeps, which are small.
use Rattle.std.specs.Prelude.{◌<◌, List, [], ◌∷◌}
use Rattle.shade_cursor.specs.declared.depths.Inside.{Inside}
use Rattle.shade_cursor.specs.Depths.{Opened}

pub record SmallInside (f : Inside) : Type 0 where
  pub floor : f.floor < 128
  pub depth : f.depth < 128
  pub start : f.start < 1025
  pub chain : f.chain < 1025

abbrev pub AllSmall : List Inside → Type 0
AllSmall [] = Unit {0}
AllSmall (f ∷ fs) = SmallInside f × AllSmall fs

pub record Small (s : Opened) : Type 0 where
  pub inner : SmallInside s.inner
  pub outer : AllSmall s.outer
