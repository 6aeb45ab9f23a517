-- The fields of a line of a wire pair.
use Rattle.std.specs.Prelude.{Bool, true, false}
use Rattle.block.specs.declared.line.Field.{Field}
use Rattle.block.specs.declared.line.Field.TheVariants.{Locked, Free}

-- the field is locked
abbrev pub is_locked : Field → Bool
is_locked Locked = true
is_locked Free = false

-- how the field at the other end of the line stands
abbrev pub opposite : Field → Field
opposite Locked = Free
opposite Free = Locked
