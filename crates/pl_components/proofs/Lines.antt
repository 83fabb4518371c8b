-- The host's lines of a component run.
use Rattle.std.proofs.Common.{◌≡◌, ℕ, true, ◌&&◌, ◌||◌, if◌then◌else◌, List, [], ◌∷◌, ◌++◌, Option, Some, None, IfSome, refl, sym, ◌∙◌, ap, subst, inl, inr, nat_lt}
use Rattle.pl_world.specs.Frames.{frame_of}
use Rattle.pl_world.specs.Told.{Piece, bytes_of}
use Rattle.pl_events.specs.declared.event.Answer.{Answer}
use Rattle.pl_events.specs.declared.event.Event.{Event}
use Rattle.pl_events.specs.declared.event.HostEnd.{HostEnd}
use Rattle.pl_events.specs.declared.event.HostEnd.TheVariants as ended
use Rattle.pl_events.specs.declared.event.Request.{Request}
use Rattle.pl_events.specs.declared.event.Request.TheVariants.{Register, Outputs, Invoke}
use Rattle.pl_events.specs.declared.event.What.{What}
use Rattle.pl_events.specs.declared.event.What.TheVariants.{Told, HostGone, Begun, Answered, Lost, Kept, Dropped, Cleared, Posted, Stopped}
use Rattle.pl_model.specs.Known.{Known}
use Rattle.pl_model.specs.Due as due
use Rattle.pl_model.specs.HostLines as lines
use Rattle.pl_model.specs.Legal as legal_specs
use Rattle.pl_events.specs.Halted as unanswered
use Rattle.pl_model.specs.Posts as posts
use Rattle.pl_model.specs.Run.{Spelling}
use Rattle.pl_model.specs.Frames.{Causes}
use Rattle.pl_components.specs.Run.{Fixed}
use Rattle.pl_components.specs.Requests.{goals_of, is_acceptable, last_number, may_be_next}
use Rattle.pl_components.specs.Due.{answer_of, is_post_due, is_too_long, result_of}
use Rattle.pl_components.specs.Due as components
use Rattle.pl_components.specs.HostLines.{EndAdds, EndFits, EndsFit, HasAnswered, HostGave, HostLines, HostTook, IsNoMessage, IsOneMore, TookAfter, answers_of}
use Rattle.pl_components.specs.Legal.{MayHappen}
use Rattle.pl_components.specs.Whole.{IsComponentRun, is_built, is_form_built, whole}
use Rattle.pl_components.proofs.Lists.{and_false}
use Rattle.pl_components.proofs.Knowing.{before_run, has_problem-placed, known_as, known_is}
use Rattle.pl_components.proofs.Waits.{IsWaited-legal, waits_due}
use Rattle.pl_components.proofs.Works.{answer_known, post_known}

-- a run up to an earlier event
pub earlier_run : (run : Fixed) (spelling : Spelling) (later past : List Event) → IsComponentRun run spelling (later ++ past)
    → IsComponentRun run spelling past
earlier_run run spelling [] past h = h
earlier_run run spelling (event ∷ later) past h = earlier_run run spelling later past (before_run run spelling event (later ++ past) h)

module _ (run : Fixed) (parallel : ℕ) (spelling : Spelling) (past : List Event) (h : IsComponentRun run spelling past) where
  abbrev known : Known
  known = known_as run parallel past

  -- a request may come next and is built just where it may come next here
  built_known : (request : Request) → is_built known request ≡ may_be_next run past request
  built_known (Register n told) =
      ap (λ (last : ℕ). nat_lt last n && is_form_built known (Register n told)) ((IsWaited-legal run spelling past h.legal).last)
      ∙ ap (λ b. nat_lt (last_number past) n && (b || is_acceptable run (goals_of run past) told)) (has_problem-placed past)
  built_known (Outputs n urn outputs) = and_false (legal_specs.may_be_next known (Outputs n urn outputs)) ∙ sym (and_false (nat_lt (last_number past) n))
  built_known (Invoke n token args provider version) =
      and_false (legal_specs.may_be_next known (Invoke n token args provider version)) ∙ sym (and_false (nat_lt (last_number past) n))

  no_message : ((body : List ℕ) → spelling.error_in body ≡ None) → (body : List ℕ) → IsNoMessage run spelling past body
      → lines.IsNoMessage spelling is_built known body
  no_message silent body none = record {
    no_success = none.no_success;
    no_error = silent body;
    no_request = λ request is. built_known request ∙ none.no_request request is;
  }

  end_adds : ((body : List ℕ) → spelling.error_in body ≡ None) → (half : Causes) (end : HostEnd) (added : List ℕ)
      → EndAdds run spelling half past end added → lines.EndAdds spelling is_built half known end added
  end_adds silent half ended.Success added adds = adds
  end_adds silent half (ended.Error text) added adds = absurd adds
  end_adds silent half ended.Ended added adds = adds
  end_adds silent half ended.PipeFault added adds = adds
  end_adds silent half (ended.BadFrame bytes) added (inl (is, none, adds)) = inl (is, no_message silent bytes none, adds)
  end_adds silent half (ended.BadFrame bytes) added (inr adds) = inr adds
  end_adds silent half ended.NoMemory added adds = adds

  end_fits : ((body : List ℕ) → spelling.error_in body ≡ None) → (what : What) → EndFits run spelling past what
      → lines.EndFits spelling is_built known what
  end_fits silent (HostGone (ended.BadFrame bytes)) (inl (is, none)) = inl (is, no_message silent bytes none)
  end_fits silent (HostGone (ended.BadFrame bytes)) (inr bad) = inr bad
  end_fits silent (HostGone ended.Success) fits = tt
  end_fits silent (HostGone (ended.Error text)) fits = tt
  end_fits silent (HostGone ended.Ended) fits = tt
  end_fits silent (HostGone ended.PipeFault) fits = tt
  end_fits silent (HostGone ended.NoMemory) fits = tt
  end_fits silent (Told request) fits = tt
  end_fits silent (Begun ticket lane op) fits = tt
  end_fits silent (Answered ticket reply) fits = tt
  end_fits silent (Lost ticket why) fits = tt
  end_fits silent (Kept goal fresh) fits = tt
  end_fits silent (Dropped row) fits = tt
  end_fits silent (Cleared at) fits = tt
  end_fits silent (Posted n) fits = tt
  end_fits silent (Stopped stop) fits = tt

  pub answer_same : (n : ℕ) → is_post_due run past n ≡ true → posts.answer_of spelling known n ≡ answer_of run spelling past n
  answer_same n due =
      ap (λ (answer : Answer). posts.shortened spelling known n answer) (answer_known run parallel spelling past h n (waits_due run past n due))
      ∙ ap (λ b. if b && posts.is_too_long spelling n (components.answer_for (result_of run past n)) then unanswered.halted else components.answer_for (result_of run past n))
      (has_problem-placed past)

  -- the answer's frame is the same
  frame_same : (n : ℕ) → is_post_due run past n ≡ true
      → lines.answer_frame (whole run parallel) spelling past n ≡ frame_of (spelling.answer_text n (answer_of run spelling past n))
  frame_same n due =
      ap (λ (k : Known). frame_of (spelling.answer_text n (posts.answer_of spelling k n))) (known_is run parallel spelling past h)
      ∙ ap (λ (answer : Answer). frame_of (spelling.answer_text n answer)) (answer_same n due)

-- ---- what was taken

took_next : (run : Fixed) (parallel : ℕ) (spelling : Spelling) (silent : (body : List ℕ) → spelling.error_in body ≡ None) (half : Causes)
    → (past : List Event) → IsComponentRun run spelling past → (what : What) (Before After : List ℕ → Type 0) → ((taken : List ℕ) → Before taken → After taken)
    → (taken : List ℕ) → TookAfter run spelling half what past Before taken
    → lines.TookNext (whole run parallel) spelling is_built half past what After taken
took_next run parallel spelling silent half past h (Told request) Before After more taken (before, added, was, adds, is) = (before, added, more before was, adds, is)
took_next run parallel spelling silent half past h (HostGone end) Before After more taken (before, added, was, adds, is) = (
  before,
  added,
  more before was,
  subst (λ (known : Known). lines.EndAdds spelling is_built half known end added) (sym (known_is run parallel spelling past h))
      (end_adds run parallel spelling past h silent half end added adds),
  is,
)
took_next run parallel spelling silent half past h (Begun ticket lane op) Before After more taken took = more taken took
took_next run parallel spelling silent half past h (Answered ticket reply) Before After more taken took = more taken took
took_next run parallel spelling silent half past h (Lost ticket why) Before After more taken took = more taken took
took_next run parallel spelling silent half past h (Kept goal fresh) Before After more taken took = more taken took
took_next run parallel spelling silent half past h (Dropped row) Before After more taken took = more taken took
took_next run parallel spelling silent half past h (Cleared at) Before After more taken took = more taken took
took_next run parallel spelling silent half past h (Posted n) Before After more taken took = more taken took
took_next run parallel spelling silent half past h (Stopped stop) Before After more taken took = more taken took

took_too : (run : Fixed) (parallel : ℕ) (spelling : Spelling) (silent : (body : List ℕ) → spelling.error_in body ≡ None) (half : Causes)
    → (history : List Event) → IsComponentRun run spelling history → (taken : List ℕ) → HostTook run spelling half history taken
    → lines.HostTook (whole run parallel) spelling is_built half history taken
took_too run parallel spelling silent half [] h taken took = took
took_too run parallel spelling silent half (event ∷ past) h taken took =
    let before : IsComponentRun run spelling past = before_run run spelling event past h in
    took_next run parallel spelling silent half past before event.what (HostTook run spelling half past)
    (lines.HostTook (whole run parallel) spelling is_built half past)
    (took_too run parallel spelling silent half past before) taken took

ends_fit : (run : Fixed) (parallel : ℕ) (spelling : Spelling) (silent : (body : List ℕ) → spelling.error_in body ≡ None)
    → (history : List Event) → IsComponentRun run spelling history → EndsFit run spelling history
    → lines.EndsFit (whole run parallel) spelling is_built history
ends_fit run parallel spelling silent [] h fit = tt
ends_fit run parallel spelling silent (event ∷ past) h (fits, earlier) =
    let before : IsComponentRun run spelling past = before_run run spelling event past h in (
      subst (λ (known : Known). lines.EndFits spelling is_built known event.what) (sym (known_is run parallel spelling past before))
          (end_fits run parallel spelling past before silent event.what fits),
      ends_fit run parallel spelling silent past before earlier,
    )

-- ---- what was given

frames_next : (run : Fixed) (parallel : ℕ) (spelling : Spelling) (past : List Event) → IsComponentRun run spelling past → (seat : ℕ) (what : What)
    → MayHappen run spelling past seat what
    → lines.posted_frames (whole run parallel) spelling past ≡ answers_of run spelling past
    → lines.answers_next (whole run parallel) spelling past what (lines.posted_frames (whole run parallel) spelling past)
    ≡ answers_of run spelling (record { seat = seat; what = what } ∷ past)
frames_next run parallel spelling past h seat (Told request) may same = same
frames_next run parallel spelling past h seat (HostGone end) may same = same
frames_next run parallel spelling past h seat (Begun ticket lane op) may same = same
frames_next run parallel spelling past h seat (Answered ticket reply) may same = same
frames_next run parallel spelling past h seat (Lost ticket why) may same = same
frames_next run parallel spelling past h seat (Kept goal fresh) may same = same
frames_next run parallel spelling past h seat (Dropped row) may same = same
frames_next run parallel spelling past h seat (Cleared at) may same = same
frames_next run parallel spelling past h seat (Posted n) may same =
    ap (λ (before : List ℕ). before ++ lines.answer_frame (whole run parallel) spelling past n) same
    ∙ ap (λ (frame : List ℕ). answers_of run spelling past ++ frame) (frame_same run parallel spelling past h n may)
frames_next run parallel spelling past h seat (Stopped stop) may same = same

frames_too : (run : Fixed) (parallel : ℕ) (spelling : Spelling) (history : List Event) → IsComponentRun run spelling history
    → lines.posted_frames (whole run parallel) spelling history ≡ answers_of run spelling history
frames_too run parallel spelling [] h = refl
frames_too run parallel spelling (event ∷ past) h =
    let before : IsComponentRun run spelling past = before_run run spelling event past h in
    frames_next run parallel spelling past before event.seat event.what h.legal.1 (frames_too run parallel spelling past before)

one_more : (run : Fixed) (parallel : ℕ) (spelling : Spelling) (half : Causes) (history : List Event) → IsComponentRun run spelling history
    → (more : List ℕ) → IsOneMore run spelling half history more
    → lines.IsOneMore (whole run parallel) spelling half history more
one_more run parallel spelling half history h more one =
    let (later, past, n, is, ready, unposted, part) = one.of_due in
    let before : IsComponentRun run spelling past = earlier_run run spelling later past (subst (λ (events : List Event). IsComponentRun run spelling events) is h) in
    record {
      cause = one.cause;
      of_due = (
        later,
        past,
        n,
        is,
        ap (λ (known : Known). due.is_post_due known n) (known_is run parallel spelling past before) ∙ post_known run parallel spelling past before n ∙ ready,
        unposted,
        (part.0, part.1 ∙ sym (frame_same run parallel spelling past before n ready)),
      );
    }

answered_too : (run : Fixed) (parallel : ℕ) (spelling : Spelling) (half : Causes) (history : List Event) → IsComponentRun run spelling history
    → (given : List ℕ) → HasAnswered run spelling half history given
    → lines.HasAnswered (whole run parallel) spelling half history given
answered_too run parallel spelling half history h given (inl is) = inl (is ∙ sym (frames_too run parallel spelling history h))
answered_too run parallel spelling half history h given (inr (more, is, one)) =
    inr (more, is ∙ ap (λ (frames : List ℕ). frames ++ more) (sym (frames_too run parallel spelling history h)), one_more run parallel spelling half history h more one)

-- ---- both

took_if : (run : Fixed) (parallel : ℕ) (spelling : Spelling) (silent : (body : List ℕ) → spelling.error_in body ≡ None) (half : Causes)
    → (history : List Event) → IsComponentRun run spelling history → (taken : Option (List ℕ)) → IfSome taken (HostTook run spelling half history)
    → IfSome taken (lines.HostTook (whole run parallel) spelling is_built half history)
took_if run parallel spelling silent half history h None took = tt
took_if run parallel spelling silent half history h (Some bytes) took = took_too run parallel spelling silent half history h bytes took

gave_if : (run : Fixed) (parallel : ℕ) (spelling : Spelling) (half : Causes) (history : List Event) → IsComponentRun run spelling history
    → (given : Option (List Piece)) → IfSome given (HostGave run spelling half history)
    → IfSome given (lines.HostGave (whole run parallel) spelling half history)
gave_if run parallel spelling half history h None gave = tt
gave_if run parallel spelling half history h (Some pieces) gave = record {
  uncovered = gave.uncovered;
  answered = answered_too run parallel spelling half history h (bytes_of pieces) gave.answered;
}

pub lines_too : (run : Fixed) (parallel : ℕ) (spelling : Spelling) (history : List Event) → IsComponentRun run spelling history
    → ((body : List ℕ) → spelling.error_in body ≡ None) → (reading writing : Causes) (taken : Option (List ℕ)) (given : Option (List Piece))
    → HostLines run spelling reading writing history taken given
    → lines.HostLines (whole run parallel) spelling is_built reading writing history taken given
lines_too run parallel spelling history h silent reading writing taken given told = record {
  took = took_if run parallel spelling silent reading history h taken told.took;
  gave = gave_if run parallel spelling writing history h given told.gave;
  ends_fit = ends_fit run parallel spelling silent history h told.ends_fit;
}
