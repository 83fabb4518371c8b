-- How the causes of stops and of the host's end stand to a history that grows.
use Rattle.std.proofs.Common.{◌≡◌, ℕ, ◌≤◌, Bool, true, false, ◌||◌, List, [], ◌∷◌, refl, subst, inl, inr, arith}
use Rattle.std.proofs.lemmas.Grind.{common_steps}
use Rattle.pl_events.specs.Closing.{has_host_end, is_host_end}
use Rattle.pl_events.specs.declared.event.Event.{Event}
use Rattle.pl_events.specs.declared.event.What.{What}
use Rattle.pl_events.specs.declared.event.What.TheVariants.{HostGone}
use Rattle.pl_events.specs.declared.event.Request.{Request}
use Rattle.pl_events.specs.declared.event.HostEnd.{HostEnd}
use Rattle.pl_events.specs.declared.event.HostEnd.TheVariants.{Ended, PipeFault, BadFrame, NoMemory}
use Rattle.pl_world.specs.Counts.{Rose}
use Rattle.pl_components.specs.Run.{Fixed}
use Rattle.pl_model.specs.Causes.{has_end_by, is_end_by, is_output_end, is_read_fault}
use Rattle.pl_engine.specs.Caused.{EndCaused, NewlyFor}
use Rattle.pl_engine.specs.Heard.{IfEnded, IfFaulted}
use Rattle.pl_engine.specs.Journal.{end_event}
use Rattle.pl_engine.specs.Running.{EndedBy, Registered}
use Rattle.pl_engine.specs.declared.journal.Journal.{Journal}
use Rattle.pl_engine.proofs.Storing.{Rose-earlier, Rose-later}

-- causes of one step and of the next
pub NewlyFor-then : (first middle last : Bool) (a b c : ℕ) → a ≤ b → b ≤ c
    → NewlyFor first middle (Rose a b) → NewlyFor middle last (Rose b c) → NewlyFor first last (Rose a c)
NewlyFor-then first true last a b c ab bc h k = λ before now. Rose-later a b c bc (h before refl)
NewlyFor-then first false last a b c ab bc h k = λ before now. Rose-earlier a b c ab (k refl now)

-- before its host has ended a history has no end of any kind
no_end : (kind : HostEnd → Bool) (what : What) (past : List Event)
    → (has_host_end past ≡ false → has_end_by kind past ≡ false)
    → (is_host_end what || has_host_end past) ≡ false → (is_end_by kind what || has_end_by kind past) ≡ false
no_end kind (HostGone _) past h going = absurd (cc)
no_end kind _ past h going = h going

pub has_end_by-going : (kind : HostEnd → Bool) (history : List Event) → has_host_end history ≡ false → has_end_by kind history ≡ false
has_end_by-going kind [] going = refl
has_end_by-going kind (event ∷ past) going = no_end kind event.what past (has_end_by-going kind past) going

-- the kind of the end that was added
end_kind : (kind : HostEnd → Bool) (end : HostEnd) (past new : List Event) → has_host_end past ≡ false → new ≡ end_event end ∷ past
    → has_end_by kind new ≡ true → kind end ≡ true
end_kind kind end past new going is has =
    let whole : (kind end || has_end_by kind past) ≡ true = subst (λ (h : List Event). has_end_by kind h ≡ true) is has in
    let none = has_end_by-going kind past going in
    grind (arith, common_steps)

pub EndCaused-by : (end : HostEnd) (past new : List Event) (faults ends : ℕ) → has_host_end past ≡ false → new ≡ end_event end ∷ past
    → (is_read_fault end ≡ true → Rose 0 faults) → (is_output_end end ≡ true → Rose 0 ends) → EndCaused faults ends new
EndCaused-by end past new faults ends going is fault output = record {
  reads = λ has. fault (end_kind is_read_fault end past new going is has);
  output = λ has. output (end_kind is_output_end end past new going is has);
}

-- an end that has no cause among the counts
pub EndCaused-free : (end : HostEnd) (past new : List Event) (faults ends : ℕ) → has_host_end past ≡ false → new ≡ end_event end ∷ past
    → is_read_fault end ≡ false → is_output_end end ≡ false → EndCaused faults ends new
EndCaused-free end past new faults ends going is no_fault no_output =
    EndCaused-by end past new faults ends going is (λ has. absurd (cc)) (λ has. absurd (cc))

faulted : (end : HostEnd) (P : Type 0) → IfFaulted end P → is_read_fault end ≡ true → P
faulted PipeFault P h is = h
faulted _ P h is = absurd (cc)

ended_so : (end : HostEnd) (P : Type 0) → IfEnded end P → is_output_end end ≡ true → P
ended_so Ended P h is = h
ended_so _ P h is = absurd (cc)

-- the end that was heard, or want of memory in its place
pub EndCaused-ended : (end : HostEnd) (past new : List Event) (wanted : Bool) (faults faults' ends ends' : ℕ) → has_host_end past ≡ false
    → EndedBy end past new wanted → IfFaulted end (Rose faults faults') → IfEnded end (Rose ends ends') → EndCaused faults' ends' new
EndCaused-ended end past new wanted faults faults' ends ends' going by fault output = elim by [
  | inl is ↦ EndCaused-by end past new faults' ends' going is.0
      (λ h. Rose-earlier 0 faults faults' (omega arith) (faulted end (Rose faults faults') fault h))
      (λ h. Rose-earlier 0 ends ends' (omega arith) (ended_so end (Rose ends ends') output h))
  | inr is ↦ EndCaused-free NoMemory past new faults' ends' going is.0 refl refl
]

-- a request by which the host's messages ended
pub EndCaused-registered : (goes : Bool) (request : Request) (body : List ℕ) (run : Fixed) (old new : Journal) (failed : Bool) (faults ends : ℕ)
    → has_host_end old.history ≡ false → Registered goes request body run old new failed → goes ≡ false → EndCaused faults ends new.history
EndCaused-registered true request body run old new failed faults ends going did stops = absurd (cc)
EndCaused-registered false request body run old new failed faults ends going did stops = elim did.1 [
  | inl is ↦ EndCaused-free (BadFrame body) old.history new.history faults ends going is.0 refl refl
  | inr is ↦ EndCaused-free NoMemory old.history new.history faults ends going is.0 refl refl
]
