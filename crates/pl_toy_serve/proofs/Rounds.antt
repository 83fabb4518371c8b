-- Where a round is cut off, from what its parts say.
use Rattle.std.proofs.Common.{◌≡◌, ℕ, inl, inr, List, [], Option, Ok, refl, sym, subst}
use Rattle.pl_world.specs.Counts.{Rose}
use Rattle.pl_world.specs.Told.{Grew, Piece}
use Rattle.pl_toy.specs.Things.{Things}
use Rattle.pl_toy_serve.specs.declared.asking.Request.{Request}
use Rattle.pl_toy_serve.specs.declared.ending.Ending.{Ending}
use Rattle.pl_toy_serve.specs.declared.ending.Ending.TheVariants.{InputEnd, Enough, PipeFault, CutShort, NoRequest, NoMemory}
use Rattle.pl_toy_serve.specs.Served.{IsCutOff, IsKeptOrReplied, OnlyTook, Seen, TakenAtEnd, TakenFor, seen}

-- what holds of the bytes that were taken at an end
TakenAtEnd-over : (ending : Ending) (P Q : List ℕ → Type 0) → ((bytes : List ℕ) → P bytes → Q bytes) → TakenAtEnd ending P → TakenAtEnd ending Q
TakenAtEnd-over InputEnd P Q weaker fact = weaker [] fact
TakenAtEnd-over Enough P Q weaker fact = absurd fact
TakenAtEnd-over PipeFault P Q weaker fact = (fact.0, fact.1, weaker fact.0 fact.2)
TakenAtEnd-over CutShort P Q weaker fact = (fact.0, fact.1, fact.2, weaker fact.0 fact.3)
TakenAtEnd-over NoRequest P Q weaker fact = (fact.0, fact.1, weaker fact.0 fact.2)
TakenAtEnd-over NoMemory P Q weaker fact = (fact.0, fact.1, weaker fact.0 fact.2)

-- nothing was asked
pub cut_at_end : (ending : Ending) (things : Option Things) (faults : ℕ) (given given_now : Option (List Piece)) (taken taken_now : Option (List ℕ))
    → given_now ≡ given → TakenAtEnd ending (Grew taken taken_now) → IsCutOff ending (seen things faults given taken) (seen things faults given_now taken_now)
cut_at_end ending things faults given given_now taken taken_now stays took =
    let before : Seen = seen things faults given taken in
    let now : Seen = seen things faults given_now taken_now in
    inl (TakenAtEnd-over ending (Grew taken taken_now) (OnlyTook before now) (λ bytes grew. record { took = grew; things_stay = refl; given_stays = stays }) took)

-- a request was taken, and no memory was found for the reply
pub cut_at_reply : (ending : Ending) (request : Request) (things things_now : Option Things) (faults faults_now : ℕ) (given given_now : Option (List Piece)) (taken taken_now : Option (List ℕ))
    → given_now ≡ given → TakenFor (Ok request) (Grew taken taken_now)
    → IsKeptOrReplied request.asked things things_now (Rose faults faults_now) → ending ≡ NoMemory
    → IsCutOff ending (seen things faults given taken) (seen things_now faults_now given_now taken_now)
cut_at_reply ending request things things_now faults faults_now given given_now taken taken_now stays took kept is =
    let before : Seen = seen things faults given taken in
    let now : Seen = seen things_now faults_now given_now taken_now in
    subst (λ (e : Ending). IsCutOff e before now) (sym is)
    (inr (inl (record { ticket = request.ticket; asked = request.asked; took = took; things = kept; given_stays = stays })))
