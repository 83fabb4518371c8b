-- What is read of a list or of an object, one after another.
use Rattle.std.proofs.Common.{◌≡◌, ℕ, ◌+◌, List, [], ◌∷◌, ◌++◌, Some, Result, Ok, Err, refl, sym, ap, append_assoc, string_bytes}
use Rattle.serde_json.proofs.Views.{Entry}
use Rattle.serde_json.specs.Data.{Data, Items, item}
use Rattle.serde_json.specs.View.{view, members_view}
use Rattle.pl_checkpoint_text.specs.Read.{Tells, TellsFault}
use Rattle.pl_checkpoint_text.specs.declared.fault.ReadFault.{ReadFault}
use Rattle.pl_checkpoint_text.specs.declared.fault.ReadFault.TheVariants.{Bad, OutOfMemory}
use Rattle.pl_checkpoint_text.specs.ReadField.{Reading, ◌>>=◌, element_path, elements, field_path, or_default, properties_of, unless_null, urns_in}

-- these, and then what is read of the others
abbrev pub after : {A : Type 0} → List A → Reading (List A) → Reading (List A)
after made others = others >>= λ more. Ok (made ++ more)

-- one more is read
pub after-next : {A : Type 0} (made : List A) (one : A) (others : Reading (List A)) → after made (others >>= λ more. Ok (one ∷ more)) ≡ after (made ++ one ∷ []) others
after-next made one (Ok more) = ap Ok (sym (append_assoc made (one ∷ []) more))
after-next made one (Err why) = refl

-- the next list of URNs is read
pub properties_of-next : (path : List ℕ) (e : Entry) (left : List Entry) (urns : List (List ℕ)) (made : List (List ℕ × List (List ℕ)))
    → or_default [] (urns_in (field_path path (string_bytes e.0))) (unless_null (Some (view e.1))) ≡ Ok urns
    → after made (properties_of path (members_view (e ∷ left))) ≡ after (made ++ (string_bytes e.0, urns) ∷ []) (properties_of path (members_view left))
unfolding properties_of
properties_of-next path e left urns made read = rw read (after-next made (string_bytes e.0, urns) (properties_of path (members_view left)))

-- ---- steps that may fail

-- after a step that was read, what is told of the rest
pub next : {A B : Type 0} (told : Reading A) (rest : A → Reading B) (found : A) (answer : Result B ReadFault) → told ≡ Ok found → Tells (rest found) answer → Tells (told >>= rest) answer
next told rest found answer is tells = rw is tells

-- a step that was not read is the last one
pub stop : {A B : Type 0} (told : Reading A) (rest : A → Reading B) (fault : ReadFault) → TellsFault told fault → TellsFault (told >>= rest) fault
stop told rest (Bad why) is = rw is refl
stop told rest OutOfMemory is = tt

-- the next element is read
pub elements-next : {A : Type 0} (kind : List ℕ → Data → Reading A) (path : List ℕ) (place : ℕ) (value : Data) (left : Items) (made : List A) (one : A)
    → kind (element_path path place) value ≡ Ok one
    → after made (elements kind path place (item value left)) ≡ after (made ++ one ∷ []) (elements kind path (place + 1) left)
unfolding elements
elements-next kind path place value left made one read = rw read (after-next made one (elements kind path (place + 1) left))
