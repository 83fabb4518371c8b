-- What an event changes of the columns of goals and told requests.
use Rattle.std.proofs.Common.{◌≡◌, ◌∷◌, ◌++◌, ℕ, false, refl, ap, ◌∙◌}
use Rattle.pl_events.specs.declared.event.Request.{Request}
use Rattle.pl_events.specs.declared.event.What.{What}
use Rattle.pl_events.specs.declared.event.What.TheVariants.{Answered, Begun, Cleared, Dropped, HostGone, Kept as KeptWhat, Lost, Posted, Stopped, Told}
use Rattle.pl_model.specs.declared.fixed.Fixed.{Fixed}
use Rattle.pl_model.specs.Step.{Summary, after, known_in}
use Rattle.pl_told.specs.Column.{Change, Kept, made_by, with_change}
use Rattle.pl_requests.specs.Column.{IsTold}
use Rattle.pl_requests.specs.Follows.{Columns, columns_in, columns_of, is_telling}

pub changes : (run : Fixed) (before : Summary) (seat : ℕ) (request : Request) (change : Change) (kept : Kept)
    → IsTold (known_in run before) request change → columns_in kept ≡ columns_of before
    → columns_in (with_change change kept) ≡ columns_of (after run before (record { seat = seat; what = Told request }))
changes run before seat request change kept told same =
    λ i. record {
      goals = (ap (λ (columns : Columns). made_by change ++ columns.goals) same ∙ told.goals) i;
      asked = told.heard i ∷ (same i).asked;
    }

pub stays : (run : Fixed) (before : Summary) (seat : ℕ) (what : What) → is_telling what ≡ false
    → columns_of (after run before (record { seat = seat; what = what })) ≡ columns_of before
stays run before seat (Told request) other = absurd cc
stays run before seat (HostGone end) other = refl
stays run before seat (Begun ticket lane about) other = refl
stays run before seat (Answered ticket reply) other = refl
stays run before seat (Lost ticket why) other = refl
stays run before seat (KeptWhat goal fresh) other = refl
stays run before seat (Dropped row) other = refl
stays run before seat (Cleared at) other = refl
stays run before seat (Posted n) other = refl
stays run before seat (Stopped stop) other = refl
