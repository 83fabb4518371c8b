-- What was taken from the host stands to the history as the definitions say.
use Rattle.std.proofs.Common.{◌≡◌, ℕ, Bool, true, false, ◌||◌, List, [], ◌∷◌, ◌++◌, Option, Some, None, option_and_then, IfSome, refl, sym, ◌∙◌, ap, subst, inl, inr, arith}
use Rattle.std.specs.List.{list_all}
use Rattle.pl_model.specs.Frames.{Causes}
use Rattle.pl_state.specs.declared.goal.Registration.{Registration}
use Rattle.pl_events.specs.Closing.{has_host_end, is_host_end}
use Rattle.pl_events.specs.declared.event.Event.{Event}
use Rattle.pl_events.specs.declared.event.What.{What}
use Rattle.pl_events.specs.declared.event.What.TheVariants.{Told, HostGone}
use Rattle.pl_events.specs.declared.event.Request.{Request}
use Rattle.pl_events.specs.declared.event.Request.TheVariants.{Register}
use Rattle.pl_events.specs.declared.event.HostEnd.{HostEnd}
use Rattle.pl_events.specs.declared.event.HostEnd.TheVariants.{Success, Error, Ended, PipeFault, BadFrame, NoMemory}
use Rattle.pl_host_msg.specs.declared.word.HostWord.{HostWord}
use Rattle.pl_host_msg.specs.declared.word.HostWord.TheVariants.{Request as Asks, Success as Done}
use Rattle.pl_host_msg.specs.Word.{word_of}
use Rattle.pl_host_msg.proofs.Numbers.{word_type_plain}
use Rattle.pl_world.specs.Counts.{Rose}
use Rattle.pl_world.specs.Told.{Grew}
use Rattle.pl_world.specs.Frames.{IsBody, frame_of}
use Rattle.pl_components.specs.Run.{Fixed}
use Rattle.pl_components.specs.Legal.{IsSpelled}
use Rattle.pl_components.specs.Requests.{may_be_next}
use Rattle.pl_components.specs.HostLines.{EndAdds, EndFits, EndsFit, HostTook, IsNoMessage, TookAfter}
use Rattle.pl_engine.specs.Spelled.{host_spelling, is_success_word, request_of_word}
use Rattle.pl_engine.specs.Journal.{end_event}
use Rattle.pl_engine.specs.Heard.{EndHeard, IfEnded, IfFaulted}
use Rattle.pl_engine.specs.Answered.{Taken}
use Rattle.pl_engine.specs.Stored.{Adds}
use Rattle.pl_engine.specs.Running.{EndedBy, Registered, TakenNow, is_work}
use Rattle.pl_engine.specs.declared.journal.Journal.{Journal}
use Rattle.pl_engine.proofs.Forming.{word_formed}

-- how this engine reads a body
is_success-host : (body : List ℕ) → host_spelling.is_success body ≡ is_success_word (word_of body)
unfolding host_spelling
is_success-host body = refl

request_in-host : (body : List ℕ) → host_spelling.request_in body ≡ option_and_then request_of_word (word_of body)
unfolding host_spelling
request_in-host body = refl

pub success-word : (body : List ℕ) → word_of body ≡ Some Done → host_spelling.is_success body ≡ true
success-word body is = is_success-host body ∙ ap is_success_word is

pub request-word : (body : List ℕ) (request : Request) → word_of body ≡ Some (Asks request) → host_spelling.request_in body ≡ Some request
request-word body request is = request_in-host body ∙ ap (λ w. option_and_then request_of_word w) is

no_message-unread : (run : Fixed) (past : List Event) (body : List ℕ) → word_of body ≡ None → IsNoMessage run host_spelling past body
no_message-unread run past body is = record {
  no_success = is_success-host body ∙ ap is_success_word is;
  no_request = λ request spells. absurd (let e : None ≡ Some request = sym (request_in-host body ∙ ap (λ w. option_and_then request_of_word w) is) ∙ spells in cc);
}

no_message-refused : (run : Fixed) (past : List Event) (body : List ℕ) (request : Request)
    → word_of body ≡ Some (Asks request) → may_be_next run past request ≡ false → IsNoMessage run host_spelling past body
no_message-refused run past body request is refused = record {
  no_success = is_success-host body ∙ ap is_success_word is;
  no_request = λ other spells.
      let e : Some request ≡ Some other = sym (request-word body request is) ∙ spells in
      let same : request ≡ other = cc in
      subst (λ (r : Request). may_be_next run past r ≡ false) same refused;
}

-- before its host has ended a history says of no bad frame
fits_going : (run : Fixed) (what : What) (past : List Event) → (has_host_end past ≡ false → EndsFit run host_spelling past)
    → (is_host_end what || has_host_end past) ≡ false → EndFits run host_spelling past what × EndsFit run host_spelling past
fits_going run (HostGone _) past h going = absurd (cc)
fits_going run _ past h going = (tt, h going)

EndsFit-going : (run : Fixed) (history : List Event) → has_host_end history ≡ false → EndsFit run host_spelling history
EndsFit-going run [] going = tt
EndsFit-going run (event ∷ past) going = fits_going run event.what past (EndsFit-going run past) going

end_fits : (run : Fixed) (end : HostEnd) (old : List Event) (P : List ℕ → Type 0) → EndHeard end P → EndFits run host_spelling old (HostGone end)
end_fits run Success old P heard = tt
end_fits run (Error _) old P heard = tt
end_fits run Ended old P heard = tt
end_fits run PipeFault old P heard = tt
end_fits run (BadFrame bytes) old P (inl (body, unread, took)) = inl (body, no_message-unread run old bytes unread)
end_fits run (BadFrame bytes) old P (inr (bad, took)) = inr bad
end_fits run NoMemory old P heard = tt

-- an end that says of a bad frame has its cause in the bytes
pub EndsFit-end : (run : Fixed) (end : HostEnd) (old new : List Event) → has_host_end old ≡ false → new ≡ end_event end ∷ old
    → EndFits run host_spelling old (HostGone end) → EndsFit run host_spelling new
EndsFit-end run end old new going is fits =
    subst (λ (history : List Event). EndsFit run host_spelling history) (sym is) (fits, EndsFit-going run old going)

-- the end that was heard, or want of memory in its place
pub EndsFit-ended : (run : Fixed) (end : HostEnd) (old new : List Event) (wanted : Bool) (P : List ℕ → Type 0) → has_host_end old ≡ false
    → EndHeard end P → EndedBy end old new wanted → EndsFit run host_spelling new
EndsFit-ended run end old new wanted P going heard (inl (is, _)) = EndsFit-end run end old new going is (end_fits run end old P heard)
EndsFit-ended run end old new wanted P going heard (inr (is, _)) = EndsFit-end run NoMemory old new going is tt

-- the end and what it adds
took-end : (run : Fixed) (half : Causes) (old new : List Event) (taken taken' : Option (List ℕ)) (added : List ℕ) (end : HostEnd)
    → new ≡ end_event end ∷ old → Taken run old taken → Grew taken taken' added → EndAdds run host_spelling half old end added
    → IfSome taken' (HostTook run host_spelling half new)
took-end run half old new None taken' added end is took grew adds =
    subst (λ (t : Option (List ℕ)). IfSome t (HostTook run host_spelling half new)) (sym grew) tt
took-end run half old new (Some before) taken' added end is took grew adds =
    subst (λ (t : Option (List ℕ)). IfSome t (HostTook run host_spelling half new)) (sym grew)
    (subst (λ (h : List Event). HostTook run host_spelling half h (before ++ added)) (sym is)
    (before, added, took half, adds, refl))

rose_zero : (start now : ℕ) → Rose start now → Rose 0 now
rose_zero start now rose = omega arith

-- however the host's messages ended, what was taken is what the history says
pub TakenNow-ended : (run : Fixed) (end : HostEnd) (old new : List Event) (taken taken' : Option (List ℕ)) (faults faults' ends ends' : ℕ) (wanted : Bool)
    → Taken run old taken → EndHeard end (Grew taken taken') → IfFaulted end (Rose faults faults') → IfEnded end (Rose ends ends')
    → EndedBy end old new wanted → TakenNow false run new wanted taken' faults' ends'
TakenNow-ended run Success old new taken taken' faults faults' ends ends' wanted took heard faulted ended by = absurd heard
TakenNow-ended run (Error _) old new taken taken' faults faults' ends ends' wanted took heard faulted ended by = absurd heard
TakenNow-ended run Ended old new taken taken' faults faults' ends ends' wanted took (added, part, grew) faulted ended (inl (is, _)) =
    took-end run _ old new taken taken' added Ended is took grew (rose_zero ends ends' ended, part)
TakenNow-ended run Ended old new taken taken' faults faults' ends ends' wanted took (added, part, grew) faulted ended (inr (is, want)) =
    took-end run _ old new taken taken' added NoMemory is took grew (want, inl (inl part))
TakenNow-ended run PipeFault old new taken taken' faults faults' ends ends' wanted took (added, part, grew) faulted ended (inl (is, _)) =
    took-end run _ old new taken taken' added PipeFault is took grew (rose_zero faults faults' faulted, part)
TakenNow-ended run PipeFault old new taken taken' faults faults' ends ends' wanted took (added, part, grew) faulted ended (inr (is, want)) =
    took-end run _ old new taken taken' added NoMemory is took grew (want, inl (inl part))
TakenNow-ended run (BadFrame bytes) old new taken taken' faults faults' ends ends' wanted took (inl (body, unread, grew)) faulted ended (inl (is, _)) =
    took-end run _ old new taken taken' (frame_of bytes) (BadFrame bytes) is took grew (inl (body, no_message-unread run old bytes unread, refl))
TakenNow-ended run (BadFrame bytes) old new taken taken' faults faults' ends ends' wanted took (inl (body, unread, grew)) faulted ended (inr (is, want)) =
    took-end run _ old new taken taken' (frame_of bytes) NoMemory is took grew (want, inl (inr (bytes, body, refl)))
TakenNow-ended run (BadFrame bytes) old new taken taken' faults faults' ends ends' wanted took (inr (bad, grew)) faulted ended (inl (is, _)) =
    took-end run _ old new taken taken' bytes (BadFrame bytes) is took grew (inr (bad, refl))
TakenNow-ended run (BadFrame bytes) old new taken taken' faults faults' ends ends' wanted took (inr (bad, grew)) faulted ended (inr (is, want)) =
    took-end run _ old new taken taken' bytes NoMemory is took grew (want, inr bad)
TakenNow-ended run NoMemory old new taken taken' faults faults' ends ends' wanted took (added, start, grew) faulted ended (inl (is, want)) =
    took-end run _ old new taken taken' added NoMemory is took grew (want refl, start)
TakenNow-ended run NoMemory old new taken taken' faults faults' ends ends' wanted took (added, start, grew) faulted ended (inr (is, want)) =
    took-end run _ old new taken taken' added NoMemory is took grew (want, start)

-- the word of success
pub TakenNow-success : (run : Fixed) (body : List ℕ) (old new : List Event) (taken taken' : Option (List ℕ)) (faults ends : ℕ) (wanted : Bool)
    → Taken run old taken → IsBody body → word_of body ≡ Some Done → Grew taken taken' (frame_of body)
    → new ≡ end_event Success ∷ old → TakenNow false run new wanted taken' faults ends
TakenNow-success run body old new taken taken' faults ends wanted took is_body word grew is =
    took-end run _ old new taken taken' (frame_of body) Success is took grew (body, is_body, success-word body word, refl)

-- work takes nothing
took-work : (run : Fixed) (half : Causes) (event : Event) (past : List Event) (taken : List ℕ) → is_work event.what ≡ true
    → HostTook run host_spelling half past taken → HostTook run host_spelling half (event ∷ past) taken
took-work run half event past taken work h = by event.what work
  where
    by : (what : What) → is_work what ≡ true → TookAfter run host_spelling half what past (HostTook run host_spelling half past) taken
    by (Told _) work = absurd (cc)
    by (HostGone _) work = absurd (cc)
    by _ work = h

took-works : (run : Fixed) (half : Causes) (events past : List Event) (taken : List ℕ) → list_all (λ event. is_work event.what) events ≡ true
    → HostTook run host_spelling half past taken → HostTook run host_spelling half (events ++ past) taken
took-works run half [] past taken work h = h
took-works run half (event ∷ events) past taken work h =
    took-work run half event (events ++ past) taken (grind arith) (took-works run half events past taken (grind arith) h)

took-told : (run : Fixed) (body : List ℕ) (request : Request) (old new : List Event) (taken taken' : Option (List ℕ))
    → Taken run old taken → IsBody body → word_of body ≡ Some (Asks request) → Grew taken taken' (frame_of body)
    → Adds is_work (record { seat = 0; what = Told request } ∷ old) new → Taken run new taken'
took-told run body request old new None taken' took is_body word grew adds half =
    subst (λ (t : Option (List ℕ)). IfSome t (HostTook run host_spelling half new)) (sym grew) tt
took-told run body request old new (Some before) taken' took is_body word grew adds half =
    subst (λ (t : Option (List ℕ)). IfSome t (HostTook run host_spelling half new)) (sym grew)
    (subst (λ (h : List Event). HostTook run host_spelling half h (before ++ frame_of body)) (sym adds.1)
    (took-works run half adds.0 (record { seat = 0; what = Told request } ∷ old) (before ++ frame_of body) adds.2
    (before, frame_of body, took half, (body, is_body, request-word body request word, refl), refl)))

-- a request, whatever became of it
pub TakenNow-registered : (result : Bool) (run : Fixed) (body : List ℕ) (request : Request) (old new : Journal) (failed : Bool) (taken taken' : Option (List ℕ)) (faults ends : ℕ)
    → Taken run old.history taken → IsBody body → word_of body ≡ Some (Asks request) → Grew taken taken' (frame_of body)
    → Registered result request body run old new failed → TakenNow result run new.history new.wanted taken' faults ends
TakenNow-registered true run body request old new failed taken taken' faults ends took is_body word grew (rest, adds) =
    took-told run body request old.history new.history taken taken' took is_body word grew adds
TakenNow-registered false run body request old new failed taken taken' faults ends took is_body word grew (over, inl (is, refused)) =
    took-end run _ old.history new.history taken taken' (frame_of body) (BadFrame body) is took grew
    (inl (is_body, no_message-refused run old.history body request word refused, refl))
TakenNow-registered false run body request old new failed taken taken' faults ends took is_body word grew (over, inr (is, want)) =
    took-end run _ old.history new.history taken taken' (frame_of body) NoMemory is took grew (want, inl (inr (body, is_body, refl)))

-- a request by which the host's messages ended
pub EndsFit-registered : (result : Bool) (run : Fixed) (body : List ℕ) (request : Request) (old new : Journal) (failed : Bool)
    → has_host_end old.history ≡ false → IsBody body → word_of body ≡ Some (Asks request)
    → Registered result request body run old new failed → result ≡ false → EndsFit run host_spelling new.history
EndsFit-registered true run body request old new failed going is_body word did stops = absurd (cc)
EndsFit-registered false run body request old new failed going is_body word (over, inl (is, refused)) stops =
    EndsFit-end run (BadFrame body) old.history new.history going is (inl (is_body, no_message-refused run old.history body request word refused))
EndsFit-registered false run body request old new failed going is_body word (over, inr (is, want)) stops =
    EndsFit-end run NoMemory old.history new.history going is tt

-- a registration that was heard is spelled by its body, has the form of one, and is no provider's
pub spelled-heard : (body : List ℕ) (word : HostWord) (request : Request) (n : ℕ) (told : Registration) → IsBody body
    → word_of body ≡ Some word → word ≡ Asks request → Register n told ≡ request → IsSpelled host_spelling (Register n told)
spelled-heard body word request n told is_body spells is parts =
    let asks : word_of body ≡ Some (Asks (Register n told)) = spells ∙ ap (λ (w : HostWord). Some w) (is ∙ ap (λ (r : Request). Asks r) (sym parts)) in
    record {
      form = (body, is_body, request-word body (Register n told) asks);
      formed = word_formed body n told asks;
      other = word_type_plain body n told asks;
    }
