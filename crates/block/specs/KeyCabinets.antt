-- What a key cabinet means.
use Rattle.std.specs.Prelude.{ℕ, min, max, Bool, true, false, List}
use Rattle.block.specs.declared.key.Key.{Key}
use Rattle.block.specs.declared.key.Key.TheVariants.{OnHook, InBoxLock}
use Rattle.block.specs.Meaning.{Meaning}
use Rattle.block.specs.Consents.{consents_meaning}

-- the key is in the box lock while the consent is out
abbrev pub in_box : Key → Bool
in_box OnHook = false
in_box InBoxLock = true

-- a line for each hook, each with its consent
abbrev pub cabinet_meaning : ℕ → List Key → Bool → Meaning
cabinet_meaning n ks w = consents_meaning in_box n ks w

-- the number of hooks that a cabinet can have, from 1 to 32, which is nearest to n
abbrev pub nearest : ℕ → ℕ
nearest n = max 1 (min n 32)
