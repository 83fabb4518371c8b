-- What is read of a history for what is chosen, asked, answered, saved and left.
use Rattle.std.proofs.Common.{◌≡◌, ℕ, ◌+◌, ◌-◌, Bool, not, ◌&&◌, if◌then◌else◌, List, length, filter, find, Option, Some, None, refl, ◌∙◌, option_and_then, option_map}
use Rattle.std.specs.List.{range_with_len, sum_by}
use Rattle.pl_lemmas.specs.Words.{has_none, has_number, some_passes}
use Rattle.pl_events.specs.declared.event.Answer.TheVariants.{Noted}
use Rattle.pl_events.specs.declared.event.Event.{Event}
use Rattle.pl_events.specs.declared.event.Request.{Request}
use Rattle.pl_events.specs.declared.event.Request.TheVariants.{Register, Outputs, Invoke}
use Rattle.pl_events.specs.declared.event.What.{What}
use Rattle.pl_events.specs.declared.event.What.TheVariants.{Told, Answered}
use Rattle.pl_events.specs.declared.operation.Op.TheVariants as op
use Rattle.pl_model.specs.Run.{Spelling, is_preview}
use Rattle.pl_model.specs.Tickets.{same_op}
use Rattle.pl_model.specs.Choice.{nothing, sent, too_many, can_be_taken, choice_of, chosen, first_taken, is_too_many, lane_there}
use Rattle.pl_model.specs.Claims.{goal_number}
use Rattle.pl_model.specs.declared.work.Work.{Work}
use Rattle.pl_model.specs.declared.work.Work.TheVariants.{Post as to_post, Keep as to_keep, Clear as to_clear, Drop as to_drop, Send as to_send}
use Rattle.pl_model.specs.Due.{goal_numbers, pending_numbers, request_numbers, works_of}
use Rattle.pl_model.specs.declared.heard.Heard.{Heard}
use Rattle.pl_model.specs.declared.heard.Fate.{Fate}
use Rattle.pl_model.specs.declared.heard.Fate.TheVariants.{Halted as halted, Refused as refused, Accepted as accepted}
use Rattle.pl_model.specs.Known.{Known, asked_at}
use Rattle.pl_model.specs.Left.{all_operations, left_of, sources_of}
use Rattle.pl_model.specs.Posts.{answer_by, answer_for, answer_of, answer_or, only_answer, registered, result_of, shortened}
use Rattle.pl_model.specs.Rows.{row_numbers}
use Rattle.pl_model.specs.Saves.{changes_state, closes_saved, is_accepted, must_save, tells_saved}
use Rattle.pl_model_step.proofs.Alike.{Alike, closed_alike, over, recorded, removed, same_fate}
use Rattle.pl_model_step.proofs.Lanes.{SameTickets, begun, count}
use Rattle.pl_model_step.proofs.Whole.{AlikeWhole, entry_alike}
use Rattle.pl_model_step.proofs.Works.{due, due_on, due_works, over_works}
use Rattle.pl_model_step.proofs.Ready.{abouts, open_alike}

module _ (known : Known) (history : List Event) (alike : AlikeWhole known.run known.history history) where
  abbrev core : Alike known.history history
  core = alike.most.core

  abbrev tickets : SameTickets known.history history
  tickets = alike.most.tickets

  abbrev other : Known
  other = over known history

  -- ---- the choice

  there : lane_there known ≡ lane_there other
  there = λ i about. find (due_on known history alike i about) (range_with_len 0 (count known.history history tickets i))

  first : (half_home : Bool) → first_taken half_home known ≡ first_taken half_home other
  first half_home = λ i. find (λ work. can_be_taken half_home work && due known history alike i work) (works_of known)

  too_much : is_too_many known ≡ is_too_many other
  too_much = λ i.
      has_none (due_works known history alike i) && not (open_alike known history alike.most i)
      && not (has_none (over_works known history alike i))

  choices : (work : Option Work) → choice_of known work ≡ choice_of other work
  choices None = λ i. if too_much i then too_many else nothing
  choices (Some (to_post n)) = refl
  choices (Some (to_keep number)) = refl
  choices (Some (to_clear at)) = refl
  choices (Some (to_drop row)) = refl
  choices (Some (to_send about)) = λ i. sent about (there i about)

  pub choosing : (half_home : Bool) → chosen half_home known ≡ chosen half_home other
  choosing half_home = (λ i. choice_of known (first half_home i)) ∙ choices (first_taken half_home other)

  -- ---- answers

  results : (request : Request) (about : Option ℕ) → result_of known request about ≡ result_of other request about
  results (Register n told) about = λ i. answer_or (option_map registered (option_and_then (entry_alike known history alike i) about))
  results (Outputs n urn outputs) about = λ i. only_answer (abouts known history alike.most i about) Noted
  results (Invoke n token args provider version) about = refl

  fated : (asked : Heard) (fate : Fate) → answer_by known asked fate ≡ answer_by other asked fate
  fated asked halted = refl
  fated asked (refused problem) = refl
  fated asked accepted = results asked.request asked.about

  answered : (asked : Option Heard) → answer_for known asked ≡ answer_for other asked
  answered None = refl
  answered (Some asked) = fated asked asked.fate

  pub answering : (spelling : Spelling) → answer_of spelling known ≡ answer_of spelling other
  answering spelling = λ i n. shortened spelling known n (answered (asked_at known n) i)

  -- ---- saves

  telling : (request : Request) → tells_saved known request ≡ tells_saved other request
  telling (Outputs n urn outputs) = λ i.
      is_accepted (same_fate known history core (Outputs n urn outputs) i)
      && abouts known history alike.most i (goal_number known.goals urn)
  telling _ = refl

  changing : (what : What) → changes_state known what ≡ changes_state other what
  changing (Told request) = telling request
  changing (Answered ticket reply) =
      λ i. some_passes closes_saved (closed_alike known.history history core (Answered ticket reply) i)
  changing _ = refl

  pub saving : must_save known ≡ must_save other
  saving = λ i what. not (is_preview known.run.mode) && changing what i

  -- ---- what is left

  pub remaining : left_of known ≡ left_of other
  remaining = λ i.
      length (filter (λ about. not (begun known.history history tickets i about)) (all_operations known))
      + sum_by (λ wanted. known.run.parallel - length (filter (λ errand. same_op errand.op (op.Configure wanted)) (tickets.begun i)))
      (sources_of known)
      + length (filter (λ number. not (recorded known history core i number)) (goal_numbers known))
      + length (filter (λ row. not (removed known history core i row)) (row_numbers known))
      + length (filter (λ at. not (has_number (alike.most.cleared i) at)) (pending_numbers known))
      + length (filter (λ n. not (has_number (alike.most.posted i) n)) (request_numbers known))
