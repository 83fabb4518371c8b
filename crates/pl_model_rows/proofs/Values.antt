-- The values of the histories: which are kept as secrets, and which hold what is not known.
use Rattle.std.proofs.Common.{◌≡◌, ℕ, pos, Bool, true, false, not, ◌&&◌, List, [], ◌∷◌, codes, nat_lt, if◌then◌else◌, sym, ap, ◌∙◌}
use Rattle.pl_value.specs.Inside.{depth, depth_level, has_unknown, has_unknown_level}
use Rattle.pl_value.specs.Marks.{secret_key}
use Rattle.pl_value.specs.Secrets.{is_secret, is_secret_level, marked}
use Rattle.pl_value.specs.declared.value.Value.{Value, out-roll-Value}
use Rattle.pl_value.specs.declared.value.Value.TheOpen.{Value-F}
use Rattle.pl_value.specs.declared.value.Value.TheVariants as value
use Rattle.pl_value.specs.declared.value.Value.TheFolds.{fold-roll-Value}
use Rattle.pl_model_rows.specs.Pieces.{k_one}
use Rattle.pl_model_rows.specs.SecretOutputs.{k_secret}

-- the fields of an object
abbrev pub Pairs : Type 0
Pairs = List (List ℕ × Value)

abbrev one : Value
one = value.Whole (pos 1)

one_is_flat : depth one ≡ 0
one_is_flat = ap depth (sym (value.rolls-Whole (pos 1))) ∙ fold-roll-Value ℕ depth_level (Value-F.Whole (pos 1))

one_is_no_secret : is_secret one ≡ false
one_is_no_secret = ap is_secret (sym (value.rolls-Whole (pos 1))) ∙ ap is_secret_level (out-roll-Value (Value-F.Whole (pos 1)))

-- a whole number is kept as a secret where its key is named
pub k_marked : marked (codes "k" ∷ []) k_one ≡ k_secret
unfolding secret_key
k_marked =
    ap (λ (secret : Bool). (codes "k", if not secret && true && nat_lt (depth one) 64 then value.Secret one else one) ∷ []) one_is_no_secret
    ∙ ap (λ (deep : ℕ). (codes "k", if nat_lt deep 64 then value.Secret one else one) ∷ []) one_is_flat

-- the unknown is not known
pub unknown_is_unknown : has_unknown value.Unknown ≡ true
unknown_is_unknown = ap has_unknown (sym value.rolls-Unknown) ∙ fold-roll-Value Bool has_unknown_level Value-F.Unknown
