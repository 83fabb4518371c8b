use Rattle.std.proofs.Common.{◌≡◌, ℕ, Bool, true, false, List, codes, refl, sym}
use Rattle.std.proofs.lemmas.Slice.Eq.{bytes_eq-Decides}
use Rattle.std.specs.Str.{bytes_eq}
use Rattle.pl_checkpoint.proofs.operation.kind_called.Goals as goal

apart : (b : Bool) → (b ≡ true → ⊥) → b ≡ false
apart true never = absurd (never refl)
apart false never = refl

differs : (own word : List ℕ) → (word ≡ own → ⊥) → bytes_eq own word ≡ false
differs own word never = apart (bytes_eq own word) (λ is. never (sym ((bytes_eq-Decides own word).0 is)))

pub returns-in_default : goal.returns-in_default
returns-in_default c =
    let word = c.args.word.now in
    let creating : bytes_eq (codes "creating") word ≡ false = differs (codes "creating") word c.in_default.not-creating in
    let updating : bytes_eq (codes "updating") word ≡ false = differs (codes "updating") word c.in_default.not-updating in
    let deleting : bytes_eq (codes "deleting") word ≡ false = differs (codes "deleting") word c.in_default.not-deleting in
    let reading : bytes_eq (codes "reading") word ≡ false = differs (codes "reading") word c.in_default.not-reading in
    let importing : bytes_eq (codes "importing") word ≡ false = differs (codes "importing") word c.in_default.not-importing in
    rw (creating, updating, deleting, reading, importing) refl
