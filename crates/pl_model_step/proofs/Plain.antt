-- What plain events tell of a summary.
use Rattle.std.proofs.Common.{◌≡◌, ℕ, Bool, true, false, ◌||◌, if◌then◌else◌, List, [], ◌∷◌, ◌++◌, map, Option, Some, None, refl, ◌∙◌, ap, option_and_then, option_map}
use Rattle.std.proofs.lemmas.List.{append-nil}
use Rattle.std.specs.List.{cons_option, list_any}
use Rattle.pl_lemmas.proofs.Truth.{or_either}
use Rattle.pl_events.specs.Closing.{has_host_end, has_stop}
use Rattle.pl_events.specs.declared.event.Event.{Event}
use Rattle.pl_events.specs.declared.event.What.TheVariants.{HostGone, Stopped}
use Rattle.pl_events.specs.declared.event.HostEnd.TheVariants.{Success}
use Rattle.pl_events.specs.declared.event.Stop.TheVariants.{NoMemory}
use Rattle.pl_events.specs.declared.operation.Op.{Op}
use Rattle.pl_events.specs.declared.reply.Reply.{Reply}
use Rattle.pl_events.specs.declared.reply.Reply.TheVariants.{Configured, Error}
use Rattle.pl_model.specs.declared.errand.Errand.{Errand}
use Rattle.pl_model.specs.Tickets.{begun_of, is_configured_reply, op_at}
use Rattle.pl_lemmas.specs.Words.{only_if}
use Rattle.pl_model.specs.Recording.{cleared_of, goal_of_op, is_removed, is_thing, posted_of, recorded_by_reply, recorded_of, removed_by_reply, removed_of, row_of_delete}
use Rattle.pl_model.specs.Step.{Summary, event_if, plain_begin, plain_clear, plain_drop, plain_event, plain_history, plain_keep, plain_loss, plain_post, plain_reply, plain_word}

-- what a reading does not see
passed_over : {X Y : Type 0} (reads : List Event → Y) (event : X → Event)
    → ((x : X) (past : List Event) → reads (event x ∷ past) ≡ reads past)
    → (xs : List X) (past : List Event) → reads (map event xs ++ past) ≡ reads past
passed_over reads event unseen [] past = refl
passed_over reads event unseen (x ∷ xs) past =
    unseen x (map event xs ++ past) ∙ passed_over reads event unseen xs past

-- what a reading lists
listed : {X Y : Type 0} (reads : List Event → List Y) (event : X → Event) (seen : X → Y)
    → ((x : X) (past : List Event) → reads (event x ∷ past) ≡ seen x ∷ reads past)
    → (xs : List X) (past : List Event) → reads (map event xs ++ past) ≡ map seen xs ++ reads past
listed reads event seen sees [] past = refl
listed {Y = Y} reads event seen sees (x ∷ xs) past =
    sees x (map event xs ++ past) ∙ ap (λ (ys : List Y). seen x ∷ ys) (listed reads event seen sees xs past)

map_same : {X : Type 0} (xs : List X) → map (λ x. x) xs ≡ xs
map_same [] = refl
map_same {X = X} (x ∷ xs) = ap (λ (ys : List X). x ∷ ys) (map_same xs)

-- whether a reading of numbers has one
pub any_listed : {X : Type 0} (reads : List Event → Bool) (event : X → Event) (test : X → Bool)
    → ((x : X) (past : List Event) → reads (event x ∷ past) ≡ (test x || reads past))
    → (xs : List X) (past : List Event) → reads (map event xs ++ past) ≡ (list_any test xs || reads past)
any_listed reads event test sees [] past = refl
any_listed reads event test sees (x ∷ xs) past =
    sees x (map event xs ++ past) ∙ ap (λ (b : Bool). test x || b) (any_listed reads event test sees xs past)
    ∙ or_either (test x) (list_any test xs) (reads past)

-- what a reply that tells of no thing records and removes
no_record : (o : Option Op) (reply : Reply) → is_thing reply ≡ false
    → option_and_then recorded_by_reply (option_map (λ about. record { op = about; reply = reply }) o) ≡ None
no_record None reply none = refl
no_record (Some about) reply none = ap (λ (b : Bool). only_if b (goal_of_op about)) none

no_removal : (o : Option Op) (reply : Reply) → is_removed reply ≡ false
    → option_and_then removed_by_reply (option_map (λ about. record { op = about; reply = reply }) o) ≡ None
no_removal None reply none = refl
no_removal (Some about) reply none = ap (λ (b : Bool). only_if b (row_of_delete about)) none

pub says_word : (b : Bool) → is_configured_reply (if b then Some Configured else None) ≡ b
says_word true = refl
says_word false = refl

pub says_none : (b : Bool) → is_configured_reply (if b then Some (Error []) else None) ≡ false
says_none true = refl
says_none false = refl

module _ (summary : Summary) where
  -- ---- the parts of the plain events, the later ones before the earlier ones

  abbrev pub begins_only : List Event
  begins_only = map plain_begin summary.begun

  abbrev pub drops : List Event
  drops = map plain_drop summary.removed ++ begins_only

  abbrev pub keeps : List Event
  keeps = map (plain_keep summary) summary.recorded ++ drops

  abbrev pub replies : List Event
  replies = map plain_reply summary.answered ++ keeps

  abbrev pub words : List Event
  words = map plain_word summary.configured ++ replies

  abbrev pub losses : List Event
  losses = map plain_loss summary.lost ++ words

  abbrev pub clears : List Event
  clears = map plain_clear summary.cleared ++ losses

  abbrev pub posts : List Event
  posts = map plain_post summary.posted ++ clears

  abbrev pub stops : List Event
  stops = event_if summary.stopped (plain_event (Stopped NoMemory)) posts

  -- ---- what a reading does not see of each part

  module _ {Y : Type 0} (reads : List Event → Y) where
    pub over_end : ((past : List Event) → reads (plain_event (HostGone Success) ∷ past) ≡ reads past)
        → reads (plain_history summary) ≡ reads stops
    over_end unseen = by summary.host_gone
      where
        by : (b : Bool) → reads (event_if b (plain_event (HostGone Success)) stops) ≡ reads stops
        by true = unseen stops
        by false = refl

    pub over_stop : ((past : List Event) → reads (plain_event (Stopped NoMemory) ∷ past) ≡ reads past) → reads stops ≡ reads posts
    over_stop unseen = by summary.stopped
      where
        by : (b : Bool) → reads (event_if b (plain_event (Stopped NoMemory)) posts) ≡ reads posts
        by true = unseen posts
        by false = refl

    pub over_posts : ((n : ℕ) (past : List Event) → reads (plain_post n ∷ past) ≡ reads past) → reads posts ≡ reads clears
    over_posts unseen = passed_over reads plain_post unseen summary.posted clears

    pub over_clears : ((at : ℕ) (past : List Event) → reads (plain_clear at ∷ past) ≡ reads past) → reads clears ≡ reads losses
    over_clears unseen = passed_over reads plain_clear unseen summary.cleared losses

    pub over_losses : ((ticket : ℕ) (past : List Event) → reads (plain_loss ticket ∷ past) ≡ reads past) → reads losses ≡ reads words
    over_losses unseen = passed_over reads plain_loss unseen summary.lost words

    pub over_words : ((ticket : ℕ) (past : List Event) → reads (plain_word ticket ∷ past) ≡ reads past) → reads words ≡ reads replies
    over_words unseen = passed_over reads plain_word unseen summary.configured replies

    pub over_replies : ((ticket : ℕ) (past : List Event) → reads (plain_reply ticket ∷ past) ≡ reads past) → reads replies ≡ reads keeps
    over_replies unseen = passed_over reads plain_reply unseen summary.answered keeps

    pub over_keeps : ((goal : ℕ) (past : List Event) → reads (plain_keep summary goal ∷ past) ≡ reads past) → reads keeps ≡ reads drops
    over_keeps unseen = passed_over reads (plain_keep summary) unseen summary.recorded drops

    pub over_drops : ((row : ℕ) (past : List Event) → reads (plain_drop row ∷ past) ≡ reads past) → reads drops ≡ reads begins_only
    over_drops unseen = passed_over reads plain_drop unseen summary.removed begins_only

    pub over_begins : ((errand : Errand) (past : List Event) → reads (plain_begin errand ∷ past) ≡ reads past) → reads begins_only ≡ reads []
    over_begins unseen = by summary.begun
      where
        by : (errands : List Errand) → reads (map plain_begin errands) ≡ reads []
        by [] = refl
        by (errand ∷ errands) = unseen errand (map plain_begin errands) ∙ by errands

  -- ---- what is read

  begun_only : begun_of begins_only ≡ summary.begun
  begun_only = by summary.begun
    where
      by : (errands : List Errand) → begun_of (map plain_begin errands) ≡ errands
      by [] = refl
      by (errand ∷ errands) = ap (λ (others : List Errand). errand ∷ others) (by errands)

  pub plain_begun : begun_of (plain_history summary) ≡ summary.begun
  plain_begun =
      over_end begun_of (λ past. refl)
      ∙ over_stop begun_of (λ past. refl)
      ∙ over_posts begun_of (λ x past. refl)
      ∙ over_clears begun_of (λ x past. refl)
      ∙ over_losses begun_of (λ x past. refl)
      ∙ over_words begun_of (λ x past. refl)
      ∙ over_replies begun_of (λ x past. refl)
      ∙ over_keeps begun_of (λ x past. refl)
      ∙ over_drops begun_of (λ x past. refl)
      ∙ begun_only

  no_recorded : recorded_of drops ≡ []
  no_recorded =
      over_drops recorded_of (λ x past. refl)
      ∙ over_begins recorded_of (λ x past. refl)

  pub plain_recorded : recorded_of (plain_history summary) ≡ summary.recorded
  plain_recorded =
      over_end recorded_of (λ past. refl)
      ∙ over_stop recorded_of (λ past. refl)
      ∙ over_posts recorded_of (λ x past. refl)
      ∙ over_clears recorded_of (λ x past. refl)
      ∙ over_losses recorded_of (λ x past. refl)
      ∙ over_words recorded_of (λ ticket past. ap (λ (o : Option ℕ). cons_option o (recorded_of past)) (no_record (op_at past ticket) Configured refl))
      ∙ over_replies recorded_of (λ ticket past. ap (λ (o : Option ℕ). cons_option o (recorded_of past)) (no_record (op_at past ticket) (Error []) refl))
      ∙ listed recorded_of (plain_keep summary) (λ x. x) (λ x past. refl) summary.recorded drops
      ∙ ap (λ (numbers : List ℕ). map (λ x. x) summary.recorded ++ numbers) no_recorded
      ∙ append-nil (map (λ x. x) summary.recorded) ∙ map_same summary.recorded

  no_removed : removed_of begins_only ≡ []
  no_removed =
      over_begins removed_of (λ x past. refl)

  pub plain_removed : removed_of (plain_history summary) ≡ summary.removed
  plain_removed =
      over_end removed_of (λ past. refl)
      ∙ over_stop removed_of (λ past. refl)
      ∙ over_posts removed_of (λ x past. refl)
      ∙ over_clears removed_of (λ x past. refl)
      ∙ over_losses removed_of (λ x past. refl)
      ∙ over_words removed_of (λ ticket past. ap (λ (o : Option ℕ). cons_option o (removed_of past)) (no_removal (op_at past ticket) Configured refl))
      ∙ over_replies removed_of (λ ticket past. ap (λ (o : Option ℕ). cons_option o (removed_of past)) (no_removal (op_at past ticket) (Error []) refl))
      ∙ over_keeps removed_of (λ x past. refl)
      ∙ listed removed_of plain_drop (λ x. x) (λ x past. refl) summary.removed begins_only
      ∙ ap (λ (numbers : List ℕ). map (λ x. x) summary.removed ++ numbers) no_removed
      ∙ append-nil (map (λ x. x) summary.removed) ∙ map_same summary.removed

  no_cleared : cleared_of losses ≡ []
  no_cleared =
      over_losses cleared_of (λ x past. refl)
      ∙ over_words cleared_of (λ x past. refl)
      ∙ over_replies cleared_of (λ x past. refl)
      ∙ over_keeps cleared_of (λ x past. refl)
      ∙ over_drops cleared_of (λ x past. refl)
      ∙ over_begins cleared_of (λ x past. refl)

  pub plain_cleared : cleared_of (plain_history summary) ≡ summary.cleared
  plain_cleared =
      over_end cleared_of (λ past. refl)
      ∙ over_stop cleared_of (λ past. refl)
      ∙ over_posts cleared_of (λ x past. refl)
      ∙ listed cleared_of plain_clear (λ x. x) (λ x past. refl) summary.cleared losses
      ∙ ap (λ (numbers : List ℕ). map (λ x. x) summary.cleared ++ numbers) no_cleared
      ∙ append-nil (map (λ x. x) summary.cleared) ∙ map_same summary.cleared

  no_posted : posted_of clears ≡ []
  no_posted =
      over_clears posted_of (λ x past. refl)
      ∙ over_losses posted_of (λ x past. refl)
      ∙ over_words posted_of (λ x past. refl)
      ∙ over_replies posted_of (λ x past. refl)
      ∙ over_keeps posted_of (λ x past. refl)
      ∙ over_drops posted_of (λ x past. refl)
      ∙ over_begins posted_of (λ x past. refl)

  pub plain_posted : posted_of (plain_history summary) ≡ summary.posted
  plain_posted =
      over_end posted_of (λ past. refl)
      ∙ over_stop posted_of (λ past. refl)
      ∙ listed posted_of plain_post (λ x. x) (λ x past. refl) summary.posted clears
      ∙ ap (λ (numbers : List ℕ). map (λ x. x) summary.posted ++ numbers) no_posted
      ∙ append-nil (map (λ x. x) summary.posted) ∙ map_same summary.posted

  no_end : has_host_end stops ≡ false
  no_end =
      over_stop has_host_end (λ past. refl)
      ∙ over_posts has_host_end (λ x past. refl)
      ∙ over_clears has_host_end (λ x past. refl)
      ∙ over_losses has_host_end (λ x past. refl)
      ∙ over_words has_host_end (λ x past. refl)
      ∙ over_replies has_host_end (λ x past. refl)
      ∙ over_keeps has_host_end (λ x past. refl)
      ∙ over_drops has_host_end (λ x past. refl)
      ∙ over_begins has_host_end (λ x past. refl)

  pub plain_host : has_host_end (plain_history summary) ≡ summary.host_gone
  plain_host = by summary.host_gone
    where
      by : (gone : Bool) → has_host_end (event_if gone (plain_event (HostGone Success)) stops) ≡ gone
      by true = refl
      by false = no_end

  no_stop : has_stop posts ≡ false
  no_stop =
      over_posts has_stop (λ x past. refl)
      ∙ over_clears has_stop (λ x past. refl)
      ∙ over_losses has_stop (λ x past. refl)
      ∙ over_words has_stop (λ x past. refl)
      ∙ over_replies has_stop (λ x past. refl)
      ∙ over_keeps has_stop (λ x past. refl)
      ∙ over_drops has_stop (λ x past. refl)
      ∙ over_begins has_stop (λ x past. refl)

  pub plain_stop : has_stop (plain_history summary) ≡ summary.stopped
  plain_stop = over_end has_stop (λ past. refl) ∙ by summary.stopped
    where
      by : (stopped : Bool) → has_stop (event_if stopped (plain_event (Stopped NoMemory)) posts) ≡ stopped
      by true = refl
      by false = no_stop
