-- How answers and the writing half stand to a history that grows.
use Rattle.std.proofs.Common.{◌≡◌, ◌⊎◌, ℕ, ◌<◌, ◌≤◌, Bool, true, false, ◌&&◌, List, [], ◌∷◌, ◌++◌, length, Option, Some, None, option_map, Result, Ok, Err, IfOk, IfSome, refl, sym, ◌∙◌, ap, subst, inl, inr, arith, append_assoc, if◌then◌else◌}
use Rattle.std.proofs.lemmas.Bool.Decides.{nat_tests}
use Rattle.std.proofs.lemmas.List.Elements.{All-append}
use Rattle.std.specs.List.{cons_option, list_all}
use Rattle.pl_lemmas.specs.Words.{has_number}
use Rattle.pl_model.specs.Recording.{posted_in, posted_of}
use Rattle.pl_world.specs.declared.frames.TheConstants.{MAX_BODY}
use Rattle.pl_text.specs.declared.memory.OutOfMemory.{OutOfMemory}
use Rattle.pl_state.specs.declared.goal.Goal.{Goal}
use Rattle.pl_events.specs.declared.event.Answer.{Answer}
use Rattle.pl_events.specs.declared.event.Answer.TheVariants.{Registered}
use Rattle.pl_events.specs.declared.event.Event.{Event}
use Rattle.pl_events.specs.declared.event.What.{What}
use Rattle.pl_events.specs.declared.event.What.TheVariants.{Posted}
use Rattle.pl_events.specs.declared.event.Stop.{Stop}
use Rattle.pl_host_msg.specs.Answer.{answer_text}
use Rattle.pl_members.specs.Message.{IfTooLong}
use Rattle.pl_members.specs.declared.message.MsgOut.{MsgOut}
use Rattle.pl_members.specs.declared.message.MsgOut.TheVariants.{TooLong}
use Rattle.pl_host_msg.proofs.Texts.{answer_text_some}
use Rattle.pl_world.specs.Causes.{OnFailed}
use Rattle.pl_world.specs.declared.trouble.Trouble.{Trouble}
use Rattle.pl_world.specs.declared.trouble.Trouble.TheVariants.{Failed}
use Rattle.pl_world.specs.Counts.{Rose}
use Rattle.pl_world.specs.Frames.{IsBody, frame_of}
use Rattle.pl_world.specs.Told.{Bears, Gave, Piece, bytes_of}
use Rattle.pl_world.proofs.Telling.{bytes_of-append}
use Rattle.pl_components.specs.Run.{Fixed}
use Rattle.pl_components.specs.Problems.{has_problem}
use Rattle.pl_events.specs.Halted.{halted}
use Rattle.pl_components.specs.Due.{answer_for, answer_of, is_post_due, is_too_long, result_of}
use Rattle.pl_components.specs.HostLines.{HostGave, answers_after, answers_of}
use Rattle.pl_engine.specs.Spelled.{host_spelling}
use Rattle.pl_engine.specs.Journal.{posted_event, stop_event, stopped_by}
use Rattle.pl_engine.specs.Stored.{Adds}
use Rattle.pl_engine.specs.Answered.{IsAnswered, Stops, Written, urn_of}

-- this engine spells an answer as the message crate does
pub answer_text-host : (n : ℕ) (answer : Answer) → host_spelling.answer_text n answer ≡ answer_text n answer
unfolding host_spelling
answer_text-host n answer = refl

-- a body that is an answer's text and fits
pub IsBody-answer : (n : ℕ) (answer : Answer) (body : List ℕ) → body ≡ answer_text n answer → length body ≤ 4194304 → IsBody body
IsBody-answer n answer body is fits = (subst (λ (b : List ℕ). 1 ≤ length b) (sym is) (answer_text_some n answer), fits)

pub IsBody-if : (n : ℕ) (answer : Answer) (result : Result (List ℕ) OutOfMemory)
    → IfOk result (λ body. body ≡ answer_text n answer) → IfOk result (λ body. length body ≤ 4194304) → IfOk result IsBody
IsBody-if n answer (Ok body) is fits = IsBody-answer n answer body is fits
IsBody-if n answer (Err _) is fits = tt

-- the answer of a request with a result is its URN
pub answer_for-urn : (result : Option Goal) (urn : List ℕ) → option_map urn_of result ≡ Some urn → answer_for result ≡ Registered urn None []
answer_for-urn None urn h = absurd (cc)
answer_for-urn (Some goal) urn h = ap (λ (u : List ℕ). Registered u None []) (let e : goal.urn ≡ urn = cc in e)

short : (n : ℕ) (answer : Answer) → length (answer_text n answer) ≤ MAX_BODY → is_too_long host_spelling n answer ≡ false
short n answer fits = rw (answer_text-host n answer) (grind (arith, nat_tests))

long : (n : ℕ) (answer : Answer) → MAX_BODY < length (answer_text n answer) → is_too_long host_spelling n answer ≡ true
long n answer over = rw (answer_text-host n answer) (grind (arith, nat_tests))

chosen : (problem too_long : Bool) (answer : Answer) → too_long ≡ false → (if problem && too_long then halted else answer) ≡ answer
chosen true too_long answer is = rw is refl
chosen false too_long answer is = refl

pub answer_of-fits : (run : Fixed) (history : List Event) (n : ℕ) (urn : List ℕ)
    → option_map urn_of (result_of run history n) ≡ Some urn → length (answer_text n (Registered urn None [])) ≤ MAX_BODY
    → answer_of run host_spelling history n ≡ Registered urn None []
answer_of-fits run history n urn result fits =
    let is = answer_for-urn (result_of run history n) urn result in
    chosen (has_problem history) (is_too_long host_spelling n (answer_for (result_of run history n))) (answer_for (result_of run history n))
    (ap (λ (a : Answer). is_too_long host_spelling n a) is ∙ short n (Registered urn None []) fits)
    ∙ is

-- where no problem stands the answer is the result, however long
pub too_long-free : (run : Fixed) (history : List Event) (n : ℕ) → has_problem history ≡ false
    → is_too_long host_spelling n (answer_for (result_of run history n)) ≡ true
    → is_too_long host_spelling n (answer_of run host_spelling history n) ≡ true
too_long-free run history n free too_long = rw free too_long

pub too_long-result : (run : Fixed) (history : List Event) (n : ℕ) (urn : List ℕ)
    → option_map urn_of (result_of run history n) ≡ Some urn → MAX_BODY < length (answer_text n (Registered urn None []))
    → is_too_long host_spelling n (answer_for (result_of run history n)) ≡ true
too_long-result run history n urn result over =
    ap (λ (a : Answer). is_too_long host_spelling n a) (answer_for-urn (result_of run history n) urn result) ∙ long n (Registered urn None []) over

halted_both : (problem too_long : Bool) (answer : Answer) → problem ≡ true → too_long ≡ true → (if problem && too_long then halted else answer) ≡ halted
halted_both problem too_long answer p t = rw (p, t) refl

-- after a problem a result that would be too long is halted
pub answer_of-too_long : (run : Fixed) (history : List Event) (n : ℕ) → has_problem history ≡ true
    → is_too_long host_spelling n (answer_for (result_of run history n)) ≡ true → answer_of run host_spelling history n ≡ halted
answer_of-too_long run history n problem too_long =
    halted_both (has_problem history) (is_too_long host_spelling n (answer_for (result_of run history n))) (answer_for (result_of run history n)) problem too_long

pub answer_of-stopped : (run : Fixed) (stop : Stop) (stopped : Bool) (history new : List Event) (n : ℕ)
    → new ≡ stopped_by stop stopped history → (stopped ≡ true → has_problem history ≡ true)
    → is_too_long host_spelling n (answer_for (result_of run history n)) ≡ true → answer_of run host_spelling new n ≡ halted
answer_of-stopped run stop true history new n is halts too_long =
    ap (λ (past : List Event). answer_of run host_spelling past n) is ∙ answer_of-too_long run history n (halts refl) too_long
answer_of-stopped run stop false history new n is halts too_long =
    ap (λ (past : List Event). answer_of run host_spelling past n) is ∙ answer_of-too_long run (stop_event stop ∷ history) n refl too_long

pub text-if : (n : ℕ) (answer : Answer) (result : Result (List ℕ) OutOfMemory) → answer ≡ halted
    → IfOk result (λ body. body ≡ answer_text n halted) → IfOk result (λ body. body ≡ answer_text n answer)
text-if n answer (Ok body) is h = h ∙ ap (λ (a : Answer). answer_text n a) (sym is)
text-if n answer (Err _) is h = tt

-- whether an event is no post
abbrev pub is_unposted : What → Bool
is_unposted (Posted _) = false
is_unposted _ = true

answers_of-one : (run : Fixed) (event : Event) (past : List Event) → is_unposted event.what ≡ true
    → answers_of run host_spelling (event ∷ past) ≡ answers_of run host_spelling past
answers_of-one run event past un = same event.what un
  where
    same : (what : What) → is_unposted what ≡ true → answers_after run host_spelling what past (answers_of run host_spelling past) ≡ answers_of run host_spelling past
    same (Posted n) un = absurd (cc)
    same _ un = refl

answers_of-some : (run : Fixed) (events past : List Event) → list_all (λ event. is_unposted event.what) events ≡ true
    → answers_of run host_spelling (events ++ past) ≡ answers_of run host_spelling past
answers_of-some run [] past un = refl
answers_of-some run (event ∷ events) past un =
    answers_of-one run event (events ++ past) (grind arith) ∙ answers_of-some run events past (grind arith)

-- events that are no posts leave the answers as they are
pub answers_of-adds : (run : Fixed) (old new : List Event) → Adds is_unposted old new
    → answers_of run host_spelling new ≡ answers_of run host_spelling old
answers_of-adds run old new adds =
    ap (λ (history : List Event). answers_of run host_spelling history) adds.1 ∙ answers_of-some run adds.0 old adds.2

posted_of-one : (event : Event) (past : List Event) → is_unposted event.what ≡ true → posted_of (event ∷ past) ≡ posted_of past
posted_of-one event past un = ap (λ (one : Option ℕ). cons_option one (posted_of past)) (none event.what un)
  where
    none : (what : What) → is_unposted what ≡ true → posted_in what ≡ None
    none (Posted n) un = absurd (cc)
    none _ un = refl

posted_of-some : (events past : List Event) → list_all (λ event. is_unposted event.what) events ≡ true → posted_of (events ++ past) ≡ posted_of past
posted_of-some [] past un = refl
posted_of-some (event ∷ events) past un = posted_of-one event (events ++ past) (grind arith) ∙ posted_of-some events past (grind arith)

-- a request that was not posted is not posted by events that are no posts
unposted-adds : (n : ℕ) (old new : List Event) → Adds is_unposted old new → has_number (posted_of old) n ≡ false → has_number (posted_of new) n ≡ false
unposted-adds n old new adds un =
    ap (λ (history : List Event). has_number (posted_of history) n) adds.1
    ∙ ap (λ (numbers : List ℕ). has_number numbers n) (posted_of-some adds.0 old adds.2) ∙ un

HostGave-adds : (run : Fixed) (faults faults' : ℕ) (wanted wanted' : Bool) (old new : List Event) (pieces : List Piece)
    → faults ≤ faults' → (wanted ≡ true → wanted' ≡ true) → Adds is_unposted old new
    → HostGave run host_spelling (record { faults = faults; ends = 0; wanted = wanted }) old pieces
    → HostGave run host_spelling (record { faults = faults'; ends = 0; wanted = wanted' }) new pieces
HostGave-adds run faults faults' wanted wanted' old new pieces le want adds h =
    let same = answers_of-adds run old new adds in
    record {
      uncovered = h.uncovered;
      answered = elim h.answered [
        | inl exact ↦ inl (exact ∙ sym same)
        | inr more ↦ inr (
          more.0,
          more.1 ∙ ap (λ (bytes : List ℕ). bytes ++ more.0) (sym same),
          record {
            cause = elim more.2.cause [ inl rose ↦ inl (omega arith) | inr w ↦ inr (want w) ];
            of_due = (
              adds.0 ++ more.2.of_due.0,
              more.2.of_due.1,
              more.2.of_due.2,
              adds.1 ∙ ap (λ (past : List Event). adds.0 ++ past) more.2.of_due.3 ∙ sym (append_assoc adds.0 more.2.of_due.0 more.2.of_due.1),
              more.2.of_due.4,
              unposted-adds more.2.of_due.2 old new adds more.2.of_due.5,
              more.2.of_due.6,
            );
          },
        )
      ];
    }

if_map : (P Q : List Piece → Type 0) (given : Option (List Piece)) → ((pieces : List Piece) → P pieces → Q pieces) → IfSome given P → IfSome given Q
if_map P Q None f h = tt
if_map P Q (Some pieces) f h = f pieces h

-- what is no post leaves the writing half as it stands
pub Written-step : (run : Fixed) (faults faults' : ℕ) (wanted wanted' failed : Bool) (old new : List Event) (given : Option (List Piece))
    → faults ≤ faults' → (wanted ≡ true → wanted' ≡ true) → Adds is_unposted old new
    → Written run faults wanted failed old given → Written run faults' wanted' failed new given
Written-step run faults faults' wanted wanted' failed old new given le want adds h =
    let same = answers_of-adds run old new adds in
    record {
      exact = λ unfailed. if_map _ _ given
          (λ pieces is. record { uncovered = is.uncovered; exact = is.exact ∙ sym same }) (h.exact unfailed);
      loose = λ shut. if_map _ _ given (λ pieces is. HostGave-adds run faults faults' wanted wanted' old new pieces le want adds is) (h.loose shut);
      cause = λ shut. elim (h.cause shut) [ inl rose ↦ inl (omega arith) | inr w ↦ inr (want w) ];
    }

given_more : (run : Fixed) (history new : List Event) (given given' : Option (List Piece)) (bytes : List ℕ)
    (Q : List Piece → Type 0)
    → Gave given given' bytes None → IfSome given (IsAnswered run history)
    → ((before pieces : List Piece) → IsAnswered run history before → Bears pieces bytes None → Q (before ++ pieces))
    → IfSome given' Q
given_more run history new None given' bytes Q gave h f =
    subst (λ (g : Option (List Piece)). IfSome g Q) (sym gave.2) tt
given_more run history new (Some before) given' bytes Q gave h f =
    subst (λ (g : Option (List Piece)). IfSome g Q) (sym gave.2) (f before gave.0 h gave.1)

-- an answer that was given and written down
pub Written-posted : (run : Fixed) (faults faults' : ℕ) (wanted wanted' failed : Bool) (n : ℕ) (body : List ℕ) (history new : List Event) (given given' : Option (List Piece))
    → failed ≡ false → new ≡ posted_event n ∷ history
    → body ≡ answer_text n (answer_of run host_spelling history n)
    → Gave given given' (frame_of body) None
    → Written run faults wanted failed history given → Written run faults' wanted' failed new given'
Written-posted run faults faults' wanted wanted' failed n body history new given given' unfailed is answer gave h =
    subst (λ (past : List Event). Written run faults' wanted' failed past given') (sym is) (record {
      exact = λ _. given_more run history (posted_event n ∷ history) given given' (frame_of body) (IsAnswered run (posted_event n ∷ history)) gave (h.exact unfailed)
          (λ before pieces was bears. record {
            uncovered = All-append (λ (piece : Piece). ◌≡◌ {A = Option (List ℕ)} piece.1 None) before pieces was.uncovered bears.covered;
            exact = bytes_of-append before pieces
                ∙ ap (λ (bytes : List ℕ). bytes ++ bytes_of pieces) was.exact
                ∙ ap (λ (bytes : List ℕ). answers_of run host_spelling history ++ bytes)
                (bears.in_order ∙ ap (λ (b : List ℕ). frame_of b) (answer ∙ sym (answer_text-host n (answer_of run host_spelling history n))));
          });
      loose = λ shut. absurd (let e : true ≡ false = sym shut ∙ unfailed in cc);
      cause = λ shut. absurd (let e : true ≡ false = sym shut ∙ unfailed in cc);
    })

-- an answer that was given in part, or not written down
pub Written-failed : (run : Fixed) (faults faults' : ℕ) (wanted wanted' failed : Bool) (n : ℕ) (body more rest : List ℕ) (history new : List Event) (given given' : Option (List Piece))
    → failed ≡ false → Stops history new
    → body ≡ answer_text n (answer_of run host_spelling history n) → is_post_due run history n ≡ true → has_number (posted_of history) n ≡ false
    → more ++ rest ≡ frame_of body
    → Rose 0 faults' ⊎ (wanted' ≡ true)
    → Gave given given' more None
    → Written run faults wanted failed history given → Written run faults' wanted' true new given'
Written-failed run faults faults' wanted wanted' failed n body more rest history new given given' unfailed stops answer due un parts cause gave h = record {
  exact = λ e. absurd (cc);
  loose = λ _. given_more run history new given given' more _ gave (h.exact unfailed)
      (λ before pieces was bears. record {
        uncovered = All-append (λ (piece : Piece). ◌≡◌ {A = Option (List ℕ)} piece.1 None) before pieces was.uncovered bears.covered;
        answered = inr (
          more,
          bytes_of-append before pieces
              ∙ ap (λ (bytes : List ℕ). bytes ++ bytes_of pieces) (was.exact ∙ sym (same stops))
              ∙ ap (λ (bytes : List ℕ). answers_of run host_spelling new ++ bytes) bears.in_order,
          record {
            cause = cause;
            of_due = (
              (later stops).0,
              history,
              n,
              (later stops).1,
              due,
              unposted stops,
              (rest, parts ∙ ap (λ (b : List ℕ). frame_of b) (answer ∙ sym (answer_text-host n (answer_of run host_spelling history n)))),
            );
          },
        );
      });
  cause = λ _. cause;
}
  where
    same : Stops history new → answers_of run host_spelling new ≡ answers_of run host_spelling history
    same (inl is) = ap (λ (past : List Event). answers_of run host_spelling past) is
    same (inr (stop, is)) = ap (λ (past : List Event). answers_of run host_spelling past) is

    unposted : Stops history new → has_number (posted_of new) n ≡ false
    unposted (inl is) = ap (λ (past : List Event). has_number (posted_of past) n) is ∙ un
    unposted (inr (stop, is)) = ap (λ (past : List Event). has_number (posted_of past) n) is ∙ un

    later : Stops history new → (events : List Event) × (new ≡ events ++ history)
    later (inl is) = ([], is)
    later (inr (stop, is)) = (stop_event stop ∷ [], is)

pub Adds-stops : (old new : List Event) → Stops old new → Adds is_unposted old new
Adds-stops old new (inl is) = ([], is, refl)
Adds-stops old new (inr (stop, is)) = (stop_event stop ∷ [], is, refl)

-- a result that was refused for its length is over the limit
pub over_limit : (error : MsgOut) (len n : ℕ) (answer : Answer) → error ≡ TooLong len
    → IfTooLong error (λ told. told ≡ length (answer_text n answer)) → IfTooLong error (λ told. MAX_BODY < told)
    → MAX_BODY < length (answer_text n answer)
over_limit error len n answer is told over =
    let told' : len ≡ length (answer_text n answer) = subst (λ (e : MsgOut). IfTooLong e (λ l. l ≡ length (answer_text n answer))) is told in
    let over' : MAX_BODY < len = subst (λ (e : MsgOut). IfTooLong e (λ l. MAX_BODY < l)) is over in
    subst (λ (l : ℕ). MAX_BODY < l) told' over'

-- what is told where the pipe failed
pub failed_of : (trouble : Trouble) (P : Type 0) → trouble ≡ Failed → OnFailed {T = Unit {0}} (Err trouble) P → P
failed_of trouble P is h = subst (λ (t : Trouble). OnFailed {T = Unit {0}} (Err t) P) is h
