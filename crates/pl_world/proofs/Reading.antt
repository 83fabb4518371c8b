use Rattle.std.proofs.Common.{◌≡◌, ℕ, ◌-◌, ◌<◌, ◌≤◌, List, [], ◌++◌, length, sym, ◌∙◌, ap, subst, inr, append_assoc, arith, length-append}
use Rattle.std.proofs.lemmas.List.{length-replicate}
use Rattle.std.specs.Prelude.{Option, replicate, Err}
use Rattle.pl_world.specs.declared.trouble.Trouble.{Trouble}
use Rattle.pl_world.specs.declared.trouble.Trouble.TheVariants as trouble
use Rattle.pl_world.specs.declared.frames.FrameIn.{FrameIn}
use Rattle.pl_world.specs.declared.frames.FrameIn.TheVariants.{Fault, End, CutShort, TooLong, Empty, OutOfMemory}
use Rattle.pl_world.specs.Told.{Took, TookMore}
use Rattle.pl_world.specs.Frames.{length_bytes, frame_of, IsPartOfFrame}
use Rattle.pl_world.proofs.Telling.{Took-append}
use Rattle.pl_world.specs.FrameIn.{frame_trouble, IsCutAt, TakesFor}

-- what is kept in a new list is what was taken
pub TookMore-new : (before now left_before left_now : Option (List ℕ)) (xs ys : List ℕ) → xs ≡ [] → TookMore before now left_before left_now xs ys → Took before now left_before left_now ys
TookMore-new before now left_before left_now xs ys new took =
    let same : ys ≡ took.0 = took.1 ∙ ap (λ kept. kept ++ took.0) new in
    subst (λ (bytes : List ℕ). Took before now left_before left_now bytes) (sym same) took.2

-- a header that was taken, and then a part of a body
pub Took-header_and_body : (first second third first_left second_left third_left : Option (List ℕ)) (new_header header new_body body : List ℕ) → new_header ≡ [] → new_body ≡ [] → TookMore first second first_left second_left new_header header → TookMore second third second_left third_left new_body body → Took first third first_left third_left (header ++ body)
Took-header_and_body first second third first_left second_left third_left new_header header new_body body no_header no_body before after =
    Took-append first second third first_left second_left third_left header body
    (TookMore-new first second first_left second_left new_header header no_header before)
    (TookMore-new second third second_left third_left new_body body no_body after)

-- after a length that may stand, fewer bytes than it says are a part of a frame
pub IsPartOfFrame-short_body : (n : ℕ) (header body : List ℕ) → length_bytes n ≡ header → 1 ≤ n → n ≤ 4194304 → length body < n → IsPartOfFrame (header ++ body)
IsPartOfFrame-short_body n header body spelled above below short =
    let rest : List ℕ = replicate (n - length body) 0 in
    let rest_length : length rest ≡ n - length body = length-replicate (n - length body) 0 in
    let whole_length : length (body ++ rest) ≡ n = omega (arith, length-append body rest, rest_length, short) in
    let frame : (header ++ body) ++ rest ≡ frame_of (body ++ rest) =
    append_assoc header body rest ∙ ap (λ front. front ++ (body ++ rest)) (sym spelled ∙ ap length_bytes (sym whole_length))
    in
    inr (body ++ rest, rest, (omega arith, omega arith), omega arith, frame)

-- what was taken where the outside did not do what it was asked to
pub TakesFor-trouble : (trouble : Trouble) (P : List ℕ → Type 0) (bytes : List ℕ) → IsPartOfFrame bytes → P bytes → TakesFor (Err (frame_trouble trouble)) P
TakesFor-trouble trouble.Failed P bytes part fact = (bytes, part, fact)
TakesFor-trouble trouble.OutOfMemory P bytes part fact = (bytes, part, fact)

-- what was taken where the input ended
pub TakesFor-cut : (answer : FrameIn) (P : List ℕ → Type 0) (bytes : List ℕ) → IsCutAt bytes answer → IsPartOfFrame bytes → P bytes → TakesFor (Err answer) P
TakesFor-cut Fault P bytes cut part fact = absurd cut
TakesFor-cut End P bytes cut part fact = subst P cut fact
TakesFor-cut (CutShort kept) P bytes cut part fact = (
  cut.0,
  subst (λ (taken : List ℕ). IsPartOfFrame taken) (sym cut.1) part,
  subst P (sym cut.1) fact,
)
TakesFor-cut (TooLong _) P bytes cut part fact = absurd cut
TakesFor-cut Empty P bytes cut part fact = absurd cut
TakesFor-cut OutOfMemory P bytes cut part fact = absurd cut
