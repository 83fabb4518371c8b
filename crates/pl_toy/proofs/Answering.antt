-- Replies by the table, whatever a shelf tells.
use Rattle.std.proofs.Common.{◌≡◌, ℕ, Bool, true, false, cond, inl, inr, List, [], ◌∷◌, length, Option, option_map, Some, None, Result, Ok, Err, IfSome, refl, sym, ap, subst, ◌∙◌, arith}
use Rattle.pl_world.specs.Causes.{OnFailed}
use Rattle.pl_world.specs.declared.trouble.Trouble.{Trouble}
use Rattle.pl_world.specs.declared.trouble.Trouble.TheVariants as trouble
use Rattle.pl_events.specs.declared.reply.Reply.{Reply}
use Rattle.pl_events.specs.declared.reply.Reply.TheVariants.{Gone}
use Rattle.pl_members.specs.Field.{Pairs}
use Rattle.pl_toy.specs.Table.{ForHeld, changed_unless_long, found_by, inputs_of, is_long, long_name, unless_long}
use Rattle.pl_toy.specs.Things.{Became, IsKeptOrBecame, Things, no_things}

-- what holds of all things
pub by_any : (told : Option Things) (P : Things → Type 0) → ((held : Things) → P held) → ForHeld told P
by_any None P all = (no_things, tt, all no_things)
by_any (Some held) P all = (held, refl, all held)

-- what holds of the thing that was got
pub by_thing : (told : Option Things) (id : List ℕ) (thing : Option (List ℕ)) (P : Option (List ℕ) → Type 0) → IfSome told (λ held. thing ≡ held id) → P thing → ForHeld told (λ held. P (held id))
by_thing None id thing P got fact = ((λ other. thing), tt, fact)
by_thing (Some held) id thing P got fact = (held, refl, subst P got fact)

-- the reply to an id that is too long
pub reply-long : (id : List ℕ) (reply answer : Reply) → is_long id ≡ true → answer ≡ long_name → answer ≡ unless_long id reply
reply-long id reply answer long is_answer = is_answer ∙ sym (ap (λ (b : Bool). cond b long_name reply) long)

-- and to another
pub reply-short : (id : List ℕ) (reply answer : Reply) → is_long id ≡ false → answer ≡ reply → answer ≡ unless_long id reply
reply-short id reply answer short is_answer = is_answer ∙ sym (ap (λ (b : Bool). cond b long_name reply) short)

-- nothing has the empty id
pub gone-empty : (id : List ℕ) (found : Option Pairs) → length id ≡ 0 → Gone ≡ unless_long id (found_by id found)
gone-empty [] found empty = refl
gone-empty (byte ∷ more) found empty = absurd (omega arith)

-- nothing is there
pub gone-none : (id : List ℕ) → is_long id ≡ false → Gone ≡ unless_long id (found_by id None)
gone-none [] short = refl
gone-none (byte ∷ more) short = reply-short (byte ∷ more) Gone Gone short refl

-- what a call that failed leaves
pub OnFailed-over : (T U : Type 0) {P Q : Type 0} (trouble : Trouble) → (P → Q) → OnFailed {T = T} (Err trouble) P → OnFailed {T = U} (Err trouble) Q
OnFailed-over T U trouble.Failed weaker fact = weaker fact
OnFailed-over T U trouble.OutOfMemory weaker fact = tt
