-- The paths of faults. While a value is read, the path of a fault in it begins at that value: `.key` for each key
-- on the way, and `[place]` for each element.
use Rattle.std.specs.Prelude.{ℕ, ◌==◌, if◌then◌else◌, List, [], ◌∷◌, ◌++◌, Result, decimal}
use Rattle.std.specs.Result.{result_map_both}
use Rattle.pl_value.specs.declared.json.JsonFault.{JsonFault}
use Rattle.pl_value.specs.declared.json.JsonFault.TheVariants.{NotWhole, SecretSealed, BadSecret, TooDeep, OutOfMemory}

-- the path of a fault
abbrev pub path_of : JsonFault → List ℕ
path_of (NotWhole path) = path
path_of (SecretSealed path) = path
path_of (BadSecret path) = path
path_of (TooDeep path) = path
path_of OutOfMemory = []

-- the same fault with another path
abbrev pub with_path : List ℕ → JsonFault → JsonFault
with_path path (NotWhole old) = NotWhole path
with_path path (SecretSealed old) = SecretSealed path
with_path path (BadSecret old) = BadSecret path
with_path path (TooDeep old) = TooDeep path
with_path path OutOfMemory = OutOfMemory

-- the way to what stands under a key
abbrev pub key_step : List ℕ → List ℕ
key_step key = 46 ∷ key

-- the way to the element at a place
abbrev pub element_step : ℕ → List ℕ
element_step place = 91 ∷ (decimal place ++ 93 ∷ [])

-- a fault in what stands a step further in, as a fault of what holds it
abbrev pub behind : List ℕ → JsonFault → JsonFault
behind step fault = with_path (step ++ path_of fault) fault

-- a fault in a secret's plaintext, as a fault of the secret: it has the path of the secret
abbrev pub hidden : JsonFault → JsonFault
hidden fault = with_path [] fault

-- the path without the dot before its first key
abbrev pub undotted : List ℕ → List ℕ
undotted [] = []
undotted (first ∷ more) = if first == 46 then more else first ∷ more

-- the path behind that of the value; where this is empty, the value is the outermost, and its first key has no dot
abbrev pub joined : List ℕ → List ℕ → List ℕ
joined [] path = undotted path
joined (first ∷ more) path = (first ∷ more) ++ path

-- a fault in the value that stands at the path, with its whole path
abbrev pub placed : List ℕ → JsonFault → JsonFault
placed base fault = with_path (joined base (path_of fault)) fault

-- what was read, with the fault changed
abbrev pub with_fault : {A : Type 0} → (JsonFault → JsonFault) → Result A JsonFault → Result A JsonFault
with_fault change told = result_map_both (λ found. found) change told
