-- What `state` prints, and what comes of it.
use Rattle.std.proofs.Common.{◌≡◌, ℕ, zero, suc, ◌≤◌, Bool, true, List, [], take, Option, Some, None, refl, sym, ◌∙◌, ap, subst, inl, inr, arith, if◌then◌else◌}
use Rattle.std.proofs.lemmas.List.{append-nil}
use Rattle.pl_cli.specs.Reading.{engine_words, is_state, spells_state, work_given}
use Rattle.pl_cli.specs.declared.table.CommandName.{CommandName}
use Rattle.pl_cli.specs.declared.table.StateWork.{StateWork}
use Rattle.pl_decide.specs.declared.outcome.Outcome.{Outcome}
use Rattle.pl_decide.specs.declared.outcome.Outcome.TheVariants.{Done, Failed, TooManyResources, BadWords, NotBuilt, BadCheckpoint, PendingOperations, StoreFault, SideFault, StartFault, PipeFault, SinkFault, ChildEnded, BadFrame, OutOfMemory}
use Rattle.pl_show.specs.StopLine.{stopped_line}
use Rattle.pl_state.specs.declared.snapshot.Snapshot.{Snapshot}
use Rattle.pl_world.specs.Told.{Grew}
use Rattle.pl_engine.specs.Content.{IsBad, IsUnreadable, ReadsAs}
use Rattle.pl_engine.specs.Printed.{AreLines, IsPrinted, IsShown, IsState, IsStateServed, lines_of, state_or_none, stop_lines, told_line}

-- where the text is empty nothing was written
grew-empty : (before now : Option (List ℕ)) → Grew before now [] → now ≡ before
grew-empty None now h = h
grew-empty (Some told) now h = h ∙ ap Some (append-nil told)

part-empty : (before now : Option (List ℕ)) (count : ℕ) → count ≤ 0 → Grew before now (take count []) → now ≡ before
part-empty before now zero h grew = grew-empty before now grew
part-empty before now (suc count) h grew = absurd (omega arith)

shown-empty : (rose : Type 0) (wanted : Bool) (before now : Option (List ℕ)) → IsShown rose wanted before now [] → now ≡ before
shown-empty rose wanted before now (inl all) = grew-empty before now all
shown-empty rose wanted before now (inr part) = part-empty before now part.1.0 part.1.1 part.1.2

-- nothing was read
pub served-unreadable : (work : StateWork) (story : Option (List (List ℕ))) (store sink : Type 0) (wanted : Bool) (before now : Option (List ℕ)) (outcome : Outcome)
    → IsUnreadable (IsBad story) store outcome → IsShown sink wanted before now (told_line outcome)
    → IsStateServed work story store sink wanted before now outcome
served-unreadable work story store sink wanted before now Done is shown = absurd is
served-unreadable work story store sink wanted before now (Failed _ _) is shown = is
served-unreadable work story store sink wanted before now TooManyResources is shown = is
served-unreadable work story store sink wanted before now (BadWords place) is shown = is
served-unreadable work story store sink wanted before now NotBuilt is shown = is
served-unreadable work story store sink wanted before now (BadCheckpoint why) is shown = (is, shown)
served-unreadable work story store sink wanted before now (PendingOperations _) is shown = is
served-unreadable work story store sink wanted before now StoreFault is shown = (is, shown)
served-unreadable work story store sink wanted before now SideFault is shown = is
served-unreadable work story store sink wanted before now StartFault is shown = is
served-unreadable work story store sink wanted before now (PipeFault _) is shown = is
served-unreadable work story store sink wanted before now SinkFault is shown = absurd is
served-unreadable work story store sink wanted before now (ChildEnded _) is shown = is
served-unreadable work story store sink wanted before now (BadFrame _ _) is shown = is
served-unreadable work story store sink wanted before now OutOfMemory is shown = inl (shown-empty sink wanted before now shown)

-- the first word of a command `state` spells it
spells : (words : List (List ℕ)) → IsState words → spells_state words ≡ true
spells words own = ap (λ (c : Option CommandName). is_state c) own.command

-- so the line of what stopped it is printed
stop-own : (words : List (List ℕ)) (outcome : Outcome) → IsState words → stop_lines words outcome ≡ stopped_line outcome
stop-own words outcome own = ap (λ (b : Bool). if b then stopped_line outcome else []) (spells words own)

shown-own : (words : List (List ℕ)) (sink : Type 0) (wanted : Bool) (before now : Option (List ℕ)) (outcome : Outcome)
    → IsState words → IsShown sink wanted before now (stopped_line outcome) → IsShown sink wanted before now (stop_lines words outcome)
shown-own words sink wanted before now outcome own h = subst (λ (text : List ℕ). IsShown sink wanted before now text) (sym (stop-own words outcome own)) h

lines-own : (words : List (List ℕ)) (work : StateWork) (story : Option (List (List ℕ))) (found : Option Snapshot) → work_given (engine_words words) ≡ Some work → ReadsAs story found
    → AreLines words story (lines_of work (state_or_none found))
lines-own words work story found given reads = record { found = found; work = work; reads = reads; given = given; are = refl }

-- what accepted words of `state` print
pub printed-served : (words : List (List ℕ)) (work : StateWork) (story : Option (List (List ℕ))) (store sink : Type 0) (wanted : Bool) (before now : Option (List ℕ)) (outcome : Outcome)
    → IsState words → work_given (engine_words words) ≡ Some work → IsStateServed work story store sink wanted before now outcome
    → IsPrinted words story sink wanted before now outcome
printed-served words work story store sink wanted before now Done own given is = (lines_of work (state_or_none is.0), lines-own words work story is.0 given is.1, is.2)
printed-served words work story store sink wanted before now (Failed _ _) own given is = is
printed-served words work story store sink wanted before now TooManyResources own given is = is
printed-served words work story store sink wanted before now (BadWords place) own given is = absurd is
printed-served words work story store sink wanted before now NotBuilt own given is = is
printed-served words work story store sink wanted before now (BadCheckpoint why) own given is = shown-own words sink wanted before now (BadCheckpoint why) own is.1
printed-served words work story store sink wanted before now (PendingOperations _) own given is = is
printed-served words work story store sink wanted before now StoreFault own given is = shown-own words sink wanted before now StoreFault own is.1
printed-served words work story store sink wanted before now SideFault own given is = is
printed-served words work story store sink wanted before now StartFault own given is = is
printed-served words work story store sink wanted before now (PipeFault _) own given is = is
printed-served words work story store sink wanted before now SinkFault own given is = (lines_of work (state_or_none is.0), lines-own words work story is.0 given is.1, is.2)
printed-served words work story store sink wanted before now (ChildEnded _) own given is = is
printed-served words work story store sink wanted before now (BadFrame _ _) own given is = is
printed-served words work story store sink wanted before now OutOfMemory own given is = memory is
  where
    memory : IsStateServed work story store sink wanted before now OutOfMemory → IsPrinted words story sink wanted before now OutOfMemory
    memory (inl same) = inl same
    memory (inr some) = inr (lines_of work (state_or_none some.0), lines-own words work story some.0 given some.1, some.2)

-- what words that are refused print
pub printed-refused : (words : List (List ℕ)) (story : Option (List (List ℕ))) (sink : Type 0) (wanted : Bool) (before now : Option (List ℕ)) (place : ℕ) (outcome : Outcome)
    → outcome ≡ BadWords place → IsShown sink wanted before now (if spells_state words then told_line (BadWords place) else [])
    → IsPrinted words story sink wanted before now outcome
printed-refused words story sink wanted before now place outcome is h = subst (λ (o : Outcome). IsPrinted words story sink wanted before now o) (sym is) h
