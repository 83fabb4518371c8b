-- The goals that were kept: how their map tells what the list tells, and that they stay recorded.
use Rattle.std.proofs.Common.{◌≡◌, ℕ, ◌==◌, ◌<◌, Bool, true, false, ◌||◌, List, [], ◌∷◌, ◌++◌, length, reverse, drop, Option, Some, None, is_some, option_and_then, option_map, cond, refl, sym, ap, ◌∙◌, ◌↔◌, arith}
use Rattle.std.proofs.Math.Bool.{or-true}
use Rattle.std.proofs.lemmas.List.{reverse-append}
use Rattle.std.proofs.lemmas.Map.Keys.{IsDistinct-head, IsDistinct-tail}
use Rattle.std.proofs.lemmas.Map.Made.{is_some-lookup}
use Rattle.std.proofs.lemmas.Option.{same_Some}
use Rattle.std.specs.Bool.{nat_eq}
use Rattle.std.specs.HashMap.{HashMap, Updates, hash_map_len}
use Rattle.std.specs.List.{AllByRecursion, IsDistinct, list_any}
use Rattle.std.specs.Map.{keys_of, lookup}
use Rattle.std.specs.Option.{IfSome, IsSome, option_or, option_to_list}
use Rattle.pl_lemmas.specs.Words.{first_in, has_number, only_if, some_passes}
use Rattle.pl_lemmas.proofs.Lists.{any_mapped, any_reversed, any_same}
use Rattle.pl_lemmas.proofs.Numbers.{equal_numbers, turned_number}
use Rattle.pl_lemmas.proofs.Options.{or_none}
use Rattle.pl_lemmas.proofs.Truth.{neither_left, neither_right}
use Rattle.pl_records.specs.Columns.{AreRecorded, fresh_in, was_kept}
use Rattle.pl_records.specs.Index.{kept_in}
use Rattle.pl_records.proofs.Newest.{reverse-push}

-- ---- the map and the list

-- a map has the goals of its list
pub kept_reversed : (entries : List (ℕ × Option ℕ)) (goal : ℕ) → is_some (lookup (nat_eq goal) entries) ≡ was_kept (reverse entries) goal
kept_reversed entries goal =
    is_some-lookup (nat_eq goal) entries
    ∙ any_mapped (nat_eq goal) (λ one. one.0) entries
    ∙ any_same (λ one. nat_eq goal one.0) (λ one. one.0 == goal) (λ one. turned_number goal one.0) entries
    ∙ sym (any_reversed (λ one. one.0 == goal) entries)

or_after : {X : Type 0} (a b c : Option X) → option_or (option_or a b) c ≡ option_or a (option_or b c)
or_after None b c = refl
or_after (Some x) b c = refl

fresh-append : (later earlier : List (ℕ × Option ℕ)) (goal : ℕ) → fresh_in (later ++ earlier) goal ≡ option_or (fresh_in earlier goal) (fresh_in later goal)
fresh-append [] earlier goal = sym (or_none (fresh_in earlier goal))
fresh-append (one ∷ later) earlier goal =
    ap (λ (o : Option ℕ). option_or o (only_if (one.0 == goal) one.1)) (fresh-append later earlier goal)
    ∙ or_after (fresh_in earlier goal) (fresh_in later goal) (only_if (one.0 == goal) one.1)

fresh-oldest : (one : ℕ × Option ℕ) (later : List (ℕ × Option ℕ)) (goal : ℕ)
    → fresh_in (reverse (one ∷ later)) goal ≡ option_or (only_if (one.0 == goal) one.1) (fresh_in (reverse later) goal)
fresh-oldest one later goal =
    ap (λ (kept : List (ℕ × Option ℕ)). fresh_in kept goal) (reverse-append (one ∷ []) later)
    ∙ fresh-append (reverse later) (one ∷ []) goal

-- a goal that was not kept has no number
pub unkept_fresh : (kept : List (ℕ × Option ℕ)) (goal : ℕ) → was_kept kept goal ≡ false → fresh_in kept goal ≡ None
unkept_fresh [] goal none = refl
unkept_fresh (one ∷ earlier) goal none =
    λ i. option_or (unkept_fresh earlier goal (neither_right (one.0 == goal) (was_kept earlier goal) none) i)
    (only_if (neither_left (one.0 == goal) (was_kept earlier goal) none i) one.1)

apart_from : (goal : ℕ) (goals : List ℕ) → AllByRecursion (λ other. nat_eq goal other ≡ false) goals → list_any (nat_eq goal) goals ≡ false
apart_from goal [] apart = refl
apart_from goal (other ∷ goals) apart = λ i. apart.0 i || apart_from goal goals apart.1 i

once_there : (goal : ℕ) (later : List (ℕ × Option ℕ)) → AllByRecursion (λ other. nat_eq goal other ≡ false) (keys_of later) → fresh_in (reverse later) goal ≡ None
once_there goal later apart =
    unkept_fresh (reverse later) goal
    (sym (kept_reversed later goal) ∙ is_some-lookup (nat_eq goal) later ∙ apart_from goal (keys_of later) apart)

-- where each goal is kept once, the map has its first number
pub looked_up : (entries : List (ℕ × Option ℕ)) (goal : ℕ) → IsDistinct nat_eq (keys_of entries)
    → option_and_then (λ fresh. fresh) (lookup (nat_eq goal) entries) ≡ fresh_in (reverse entries) goal
looked_up [] goal once = refl
looked_up (one ∷ later) goal once =
    by (nat_eq goal one.0) refl (looked_up later goal (IsDistinct-tail nat_eq one.0 (keys_of later) once))
    ∙ ap (λ (b : Bool). option_or (only_if b one.1) (fresh_in (reverse later) goal)) (turned_number goal one.0)
    ∙ sym (fresh-oldest one later goal)
  where
    by : (b : Bool) → nat_eq goal one.0 ≡ b → option_and_then (λ fresh. fresh) (lookup (nat_eq goal) later) ≡ fresh_in (reverse later) goal
        → option_and_then (λ fresh. fresh) (cond b (Some one.1) (lookup (nat_eq goal) later))
        ≡ option_or (only_if b one.1) (fresh_in (reverse later) goal)
    by true is rest =
        let same : goal ≡ one.0 = equal_numbers goal one.0 is in
        let none : fresh_in (reverse later) goal ≡ None =
        ap (λ (n : ℕ). fresh_in (reverse later) n) same ∙ once_there one.0 later (IsDistinct-head nat_eq one.0 (keys_of later) once) in
        sym (ap (λ (o : Option ℕ). option_or one.1 o) none ∙ or_none one.1)
    by false is rest = rest

-- ---- what is taken out

-- the goal that was kept last is kept no more once it is taken out
pub gone : {S : Type 0} (old new : HashMap ℕ (Option ℕ) S) (newest : Option (ℕ × Option ℕ)) → old.entries ≡ new.entries ++ option_to_list newest
    → (IsSome newest ↔ (0 < hash_map_len old)) → IfSome newest (λ one. Updates nat_eq old new one.0 None)
    → some_passes (λ one. was_kept (kept_in new) one.0) (first_in (kept_in old)) ≡ false
gone old new None split found out = by old.entries found
  where
    by : (entries : List (ℕ × Option ℕ)) → (IsSome {T = ℕ × Option ℕ} None ↔ (0 < length entries))
        → some_passes (λ one. was_kept (kept_in new) one.0) (first_in (reverse entries)) ≡ false
    by [] found = refl
    by (one ∷ entries) found = absurd (let e : false ≡ true = found.1 (omega arith) in cc)
gone old new (Some one) split found out =
    ap (λ (entries : List (ℕ × Option ℕ)). some_passes (λ it. was_kept (kept_in new) it.0) (first_in entries))
    (ap reverse split ∙ reverse-push new.entries one)
    ∙ sym (kept_reversed new.entries one.0) ∙ ap is_some out.1

-- ---- kept goals are recorded

-- a number of a goal is that of a recorded one
pub only_recorded : (kept : List (ℕ × Option ℕ)) (recorded : List ℕ) → AreRecorded kept recorded → (goal : ℕ)
    → fresh_in kept goal ≡ only_if (has_number recorded goal) (fresh_in kept goal)
only_recorded kept recorded all goal = by (has_number recorded goal) refl (was_kept kept goal) refl
  where
    by : (there : Bool) → has_number recorded goal ≡ there → (b : Bool) → was_kept kept goal ≡ b
        → fresh_in kept goal ≡ only_if there (fresh_in kept goal)
    by true is b kept_is = refl
    by false is true kept_is = absurd (let e : false ≡ true = sym is ∙ all goal kept_is in cc)
    by false is false kept_is = unkept_fresh kept goal kept_is

-- the other goals stay recorded where the newest is taken back
pub stay_recorded : (kept others : List (ℕ × Option ℕ)) (recorded goals : List ℕ) → AreRecorded kept recorded
    → others ≡ drop 1 kept → goals ≡ drop 1 recorded
    → some_passes (λ one. was_kept others one.0) (first_in kept) ≡ false
    → first_in recorded ≡ option_map (λ one. one.0) (first_in kept)
    → AreRecorded others goals
stay_recorded [] others recorded goals all taken back unkept same goal there =
    absurd (let e : false ≡ true = sym (ap (λ (l : List (ℕ × Option ℕ)). was_kept l goal) taken) ∙ there in cc)
stay_recorded (one ∷ kept) others [] goals all taken back unkept same goal there =
    absurd (let e : None ≡ Some one.0 = same in cc)
stay_recorded (one ∷ kept) others (newest ∷ recorded) goals all taken back unkept same goal there =
    ap (λ (l : List ℕ). has_number l goal) back ∙ by (newest == goal) refl recorded_is
  where
    here : newest ≡ one.0
    here = same_Some newest one.0 same

    kept_there : was_kept kept goal ≡ true
    kept_there = sym (ap (λ (l : List (ℕ × Option ℕ)). was_kept l goal) taken) ∙ there

    recorded_is : ((newest == goal) || has_number recorded goal) ≡ true
    recorded_is = all goal (ap (λ (b : Bool). (one.0 == goal) || b) kept_there ∙ or-true (one.0 == goal))

    by : (b : Bool) → (newest == goal) ≡ b → (b || has_number recorded goal) ≡ true → has_number recorded goal ≡ true
    by true is h =
        let e : one.0 ≡ goal = sym here ∙ equal_numbers newest goal is in
        absurd (let no : false ≡ true = sym unkept ∙ ap (λ (n : ℕ). was_kept others n) e ∙ there in cc)
    by false is h = h
