-- What is kept, with the newest answer taken back.
use Rattle.std.proofs.Common.{◌≡◌, ◌<◌, ◌+◌, ◌≤◌, ℕ, Bool, true, false, ◌==◌, ◌&&◌, ◌||◌, cond, if◌then◌else◌, drop, List, [], ◌∷◌, ◌++◌, length, map, reverse, Option, Some, None, option_map, refl, sym, ap, subst, ◌∙◌, arith, get_or}
use Rattle.std.proofs.lemmas.List.{length_push, reverse-append}
use Rattle.std.proofs.lemmas.List.Sums.{sum_by-set}
use Rattle.std.proofs.lemmas.Map.Keys.{IsDistinct-head, IsDistinct-tail}
use Rattle.std.proofs.lemmas.Option.{get_or_from_slice_get, slice_get-map, slice_get_within}
use Rattle.std.proofs.Math.Bool.{and-false, and-true}
use Rattle.std.specs.Bool.{nat_eq}
use Rattle.std.specs.List.{IsDistinct, cons_option, count_by, filter_map, list_any, slice_get, slice_set}
use Rattle.pl_lemmas.specs.Words.{first_in, has_number, some_passes}
use Rattle.pl_lemmas.proofs.Numbers.{equal_numbers, same_number}
use Rattle.pl_lemmas.proofs.Options.{passing}
use Rattle.pl_lemmas.proofs.Truth.{neither_left, neither_right}
use Rattle.pl_value.specs.Inside.{greatest}
use Rattle.pl_events.specs.declared.reply.Reply.{Reply}
use Rattle.pl_events.specs.declared.reply.Reply.TheVariants as reply
use Rattle.pl_model.specs.declared.errand.Errand.{Errand}
use Rattle.pl_model.specs.Step.{configured_by}
use Rattle.pl_model.specs.Tickets.{is_configured_reply}
use Rattle.pl_errands.specs.declared.lane.Lane.{Lane}
use Rattle.pl_errands.specs.declared.row.Replied.{Replied}
use Rattle.pl_errands.specs.declared.row.Row.{Row}
use Rattle.pl_errands.specs.declared.row.Standing.{Standing}
use Rattle.pl_errands.specs.declared.row.Standing.TheVariants as standing
use Rattle.pl_errands.specs.Agree.{AreKept}
use Rattle.pl_errands.specs.Lanes.{AgreeLanes, changed_at, errands_in, first_source, is_configured_in, open_again, out_of}
use Rattle.pl_errands.specs.Rows.{AgreeRows, AreNumbered, configured_of, is_answered, is_configured, is_lost, is_open, is_open_row, tickets_by}
use Rattle.pl_errands.specs.Tickets.{without_answer}
use Rattle.pl_errands.proofs.LaneSteps.{after, changed-at, is_on, lane_of}
use Rattle.pl_errands.proofs.Lists.{any-set, each-set, get-set, get-set_same, map-reversed, map-set_same, none_apart, passes-set, set-length}
use Rattle.pl_errands.proofs.Undoing.{word_dropped}

reverse-push : {X : Type 0} (xs : List X) (y : X) → reverse (xs ++ y ∷ []) ≡ y ∷ reverse xs
reverse-push xs y = reverse-append xs (y ∷ [])

-- ---- the word that a lane is configured

-- it tells of no other ticket
word_elsewhere : (ticket : ℕ) (told : Reply) (numbers : List ℕ) (number : ℕ) → (ticket == number) ≡ false
    → has_number (cons_option (configured_by ticket told) numbers) number ≡ has_number numbers number
word_elsewhere ticket reply.Configured numbers number other = ap (λ (b : Bool). b || has_number numbers number) other
word_elsewhere ticket _ numbers number other = refl

-- it tells of tickets alone that were answered
no_word : (replies : List Replied) (number : ℕ) → has_number (map (λ one. one.ticket) replies) number ≡ false
    → has_number (filter_map configured_of replies) number ≡ false
no_word [] number none = refl
no_word (one ∷ replies) number none =
    word_elsewhere one.ticket one.closed.reply (filter_map configured_of replies) number
    (neither_left (one.ticket == number) (has_number (map (λ other. other.ticket) replies) number) none)
    ∙ no_word replies number (neither_right (one.ticket == number) (has_number (map (λ other. other.ticket) replies) number) none)

not_open : (became : Standing) → is_answered became ≡ true → is_open became ≡ false
not_open standing.Answered is = refl
not_open standing.Configured is = refl
not_open _ is = absurd (let e : false ≡ true = is in cc)

not_lost : (became : Standing) → is_answered became ≡ true → is_lost became ≡ false
not_lost standing.Answered is = refl
not_lost standing.Configured is = refl
not_lost _ is = absurd (let e : false ≡ true = is in cc)

module _ (rows : List Row) (replies : List Replied) (one : Replied) (lost : List ℕ) (lanes : List Lane) (open_tickets : ℕ)
    (kept : AreKept rows (replies ++ one ∷ []) lost lanes open_tickets) where
  abbrev earlier : List ℕ
  earlier = map (λ other. other.ticket) (reverse replies)

  answered_is : (tickets_by rows (replies ++ one ∷ []) lost).answered ≡ one.ticket ∷ earlier
  answered_is = ap (map (λ other. other.ticket)) (reverse-push replies one)

  -- the ticket of the newest answer was answered
  pub answered_row : (row : Row) × (slice_get rows one.ticket ≡ Some row) × (is_answered row.standing ≡ true)
  answered_row =
      passing (λ row. is_answered row.standing) (slice_get rows one.ticket)
      (sym (kept.rows_agree.answered one.ticket) ∙ ap (λ (numbers : List ℕ). has_number numbers one.ticket) answered_is
      ∙ ap (λ (b : Bool). b || has_number earlier one.ticket) (same_number one.ticket))

  pub is_answered_there : some_passes (λ row. is_answered row.standing) (slice_get rows one.ticket) ≡ true
  is_answered_there = ap (some_passes (λ row. is_answered row.standing)) answered_row.1 ∙ answered_row.2

  -- it was not before
  answered_once : has_number earlier one.ticket ≡ false
  answered_once =
      none_apart one.ticket earlier
      (IsDistinct-head nat_eq one.ticket earlier (subst (IsDistinct nat_eq) answered_is kept.once))

  module _ (row : Row) (was : slice_get rows one.ticket ≡ Some row) (closed : is_answered row.standing ≡ true) where
    abbrev open_row : Row
    open_row = record { errand = row.errand; standing = standing.Open }

    abbrev rows_open : List Row
    rows_open = slice_set rows one.ticket open_row

    -- ---- the rows

    same_rows : errands_in rows_open ≡ errands_in rows
    same_rows = map-set_same (λ it. it.errand) rows one.ticket row open_row was refl

    told_of : (test : Standing → Bool) (numbers : List ℕ) (number : ℕ) → test standing.Open ≡ false → has_number numbers one.ticket ≡ false
        → ((one.ticket == number) ≡ false → has_number numbers number ≡ some_passes (λ it. test it.standing) (slice_get rows number))
        → has_number numbers number ≡ some_passes (λ it. test it.standing) (slice_get rows_open number)
    told_of test numbers number fails none others =
        by (one.ticket == number) refl ∙ sym (ap (some_passes (λ it. test it.standing)) (get-set rows one.ticket row open_row was number))
      where
        by : (b : Bool) → (one.ticket == number) ≡ b
            → has_number numbers number ≡ some_passes (λ it. test it.standing) (cond b (Some open_row) (slice_get rows number))
        by true same = ap (has_number numbers) (sym (equal_numbers one.ticket number same)) ∙ none ∙ sym fails
        by false other = others other

    pub reopened_rows : AgreeRows rows_open (tickets_by rows_open replies lost)
    reopened_rows = record {
      answered = λ number. told_of is_answered earlier number refl answered_once
          (λ other. sym (ap (λ (b : Bool). b || has_number earlier number) other)
          ∙ sym (ap (λ (numbers : List ℕ). has_number numbers number) answered_is) ∙ kept.rows_agree.answered number);
      lost = λ number. told_of is_lost (reverse lost) number refl
          (kept.rows_agree.lost one.ticket ∙ ap (some_passes (λ it. is_lost it.standing)) was ∙ not_lost row.standing closed)
          (λ other. kept.rows_agree.lost number);
      configured = λ number. told_of is_configured (filter_map configured_of (reverse replies)) number refl
          (no_word (reverse replies) one.ticket answered_once)
          (λ other. sym (word_elsewhere one.ticket one.closed.reply (filter_map configured_of (reverse replies)) number other)
          ∙ sym (ap (λ (told : List Replied). has_number (filter_map configured_of told) number) (reverse-push replies one))
          ∙ kept.rows_agree.configured number);
    }

    -- one row more that passes a test which the answered one fails
    counted_more : (test : Row → Bool) → test row ≡ false → count_by test rows_open ≡ count_by test rows + cond (test open_row) 1 0
    counted_more test fails =
        let inside : one.ticket < length rows = slice_get_within rows one.ticket row was in
        let at : cond (test (get_or rows one.ticket row)) 1 0 ≡ 0 =
        ap (λ it. cond (test it) 1 0) (get_or_from_slice_get rows one.ticket row row was) ∙ ap (λ (b : Bool). cond b 1 0) fails in
        let written : count_by test rows_open + cond (test (get_or rows one.ticket row)) 1 0 ≡ count_by test rows + cond (test open_row) 1 0 =
        sum_by-set (λ it. cond (test it) 1 0) rows one.ticket open_row row inside in
        let e : count_by test rows_open + 0 ≡ count_by test rows + cond (test open_row) 1 0 =
        ap (λ (n : ℕ). count_by test rows_open + n) (sym at) ∙ written in
        sym (omega arith) ∙ e

    -- ---- the lanes

    pub reopened_lane : (lane : Lane) × (slice_get lanes row.errand.lane ≡ Some lane)
    reopened_lane =
        lane_of rows lanes kept.lanes_agree one.ticket row.errand
        (slice_get-map (λ it. it.errand) rows one.ticket ∙ ap (option_map (λ it. it.errand)) was)

    module _ (lane_was : Lane) (there : slice_get lanes row.errand.lane ≡ Some lane_was) where
      abbrev lane_open : Lane
      lane_open = open_again (is_configured_in rows_open row.errand.lane) lane_was

      abbrev lanes_open : List Lane
      lanes_open = slice_set lanes row.errand.lane lane_open

      more_out : (lane : ℕ) → count_by (is_on lane) rows_open ≡ out_of (slice_get lanes_open lane)
      more_out lane =
          counted_more (is_on lane) (ap (λ (b : Bool). (row.errand.lane == lane) && b) (not_open row.standing closed) ∙ and-false (row.errand.lane == lane))
          ∙ ap (λ (b : Bool). count_by (is_on lane) rows + cond b 1 0) (and-true (row.errand.lane == lane))
          ∙ by (row.errand.lane == lane) refl
          ∙ sym (ap out_of (get-set lanes row.errand.lane lane_was lane_open there lane))
        where
          by : (b : Bool) → (row.errand.lane == lane) ≡ b
              → count_by (is_on lane) rows + cond b 1 0 ≡ out_of (cond b (Some lane_open) (slice_get lanes lane))
          by true same =
              let all : count_by (is_on lane) rows ≡ lane_was.out =
              kept.lanes_agree.out lane ∙ ap (λ (n : ℕ). out_of (slice_get lanes n)) (sym (equal_numbers row.errand.lane lane same)) ∙ ap out_of there in
              ap (λ (n : ℕ). n + 1) all
          by false other =
              let all : count_by (is_on lane) rows ≡ out_of (slice_get lanes lane) = kept.lanes_agree.out lane in
              omega arith

      told_configured : (lane : ℕ) → is_configured_in rows_open lane ≡ some_passes (λ it. it.configured) (slice_get lanes_open lane)
      told_configured lane =
          by (row.errand.lane == lane) refl
          ∙ sym (ap (some_passes (λ it. it.configured)) (get-set lanes row.errand.lane lane_was lane_open there lane))
        where
          by : (b : Bool) → (row.errand.lane == lane) ≡ b
              → is_configured_in rows_open lane ≡ some_passes (λ it. it.configured) (cond b (Some lane_open) (slice_get lanes lane))
          by true same = ap (is_configured_in rows_open) (sym (equal_numbers row.errand.lane lane same))
          by false other =
              any-set (λ it. it.errand.lane == lane && is_configured it.standing) rows one.ticket row open_row was
              (ap (λ (b : Bool). b && is_configured row.standing) other)
              ∙ ap (λ (b : Bool). (b && false) || is_configured_in rows lane) other
              ∙ kept.lanes_agree.configured lane

      told_lost : (lane : ℕ) → list_any (λ it. it.errand.lane == lane && is_lost it.standing) rows_open
          ≡ some_passes (λ it. it.lost) (slice_get lanes_open lane)
      told_lost lane =
          any-set (λ it. it.errand.lane == lane && is_lost it.standing) rows one.ticket row open_row was
          (ap (λ (b : Bool). (row.errand.lane == lane) && b) (not_lost row.standing closed) ∙ and-false (row.errand.lane == lane))
          ∙ ap (λ (b : Bool). b || list_any (λ it. it.errand.lane == lane && is_lost it.standing) rows) (and-false (row.errand.lane == lane))
          ∙ kept.lanes_agree.lost lane
          ∙ sym (passes-set (λ it. it.lost) false lanes row.errand.lane lane_was lane_open there refl lane
          ∙ ap (λ (b : Bool). b || some_passes (λ it. it.lost) (slice_get lanes lane)) (and-false (row.errand.lane == lane)))

      reopened_lanes : AgreeLanes rows_open lanes_open
      reopened_lanes = record {
        count = ap (λ (errands : List Errand). greatest (map after errands)) same_rows ∙ kept.lanes_agree.count
            ∙ sym (set-length lanes row.errand.lane lane_open);
        first = λ lane.
            ap (λ (errands : List Errand). first_source errands lane) same_rows ∙ kept.lanes_agree.first lane
            ∙ sym (get-set_same (λ it. it.source) lanes row.errand.lane lane_was lane_open there refl lane);
        out = more_out;
        configured = told_configured;
        lost = told_lost;
      }

    -- ---- all of it

    pub reopened_kept : AreKept rows_open replies lost
        (changed_at (open_again (is_configured_in rows_open row.errand.lane)) row.errand.lane lanes) (open_tickets + 1)
    reopened_kept = record {
      numbered = each-set rows one.ticket open_row (λ place it. it.errand.ticket ≡ place) kept.numbered (kept.numbered one.ticket row was);
      rows_agree = reopened_rows;
      once = IsDistinct-tail nat_eq one.ticket earlier (subst (IsDistinct nat_eq) answered_is kept.once);
      lanes_agree =
          let lane = reopened_lane in
          subst (AgreeLanes rows_open)
          (sym (changed-at (open_again (is_configured_in rows_open row.errand.lane)) row.errand.lane lanes lane.0 lane.1))
          (reopened_lanes lane.0 lane.1);
      open_count = counted_more is_open_row (not_open row.standing closed) ∙ ap (λ (n : ℕ). n + 1) kept.open_count;
      closed_count =
          let longer : length (replies ++ one ∷ []) ≡ length replies + 1 = length_push replies one in
          let all : open_tickets + length (replies ++ one ∷ []) + length lost ≡ length rows = kept.closed_count in
          let same = set-length rows one.ticket open_row in
          omega arith ∙ sym same;
    }

    -- ---- the tickets

    pub reopened_tickets : tickets_by rows_open replies lost ≡ without_answer (tickets_by rows (replies ++ one ∷ []) lost)
    reopened_tickets =
        let begun : map (λ it. it.errand) (reverse rows_open) ≡ map (λ it. it.errand) (reverse rows) =
        map-reversed (λ it. it.errand) rows_open ∙ ap reverse same_rows ∙ sym (map-reversed (λ it. it.errand) rows) in
        let back : reverse (replies ++ one ∷ []) ≡ one ∷ reverse replies = reverse-push replies one in
        let word : filter_map configured_of (reverse replies)
        ≡ (if is_configured_reply (option_map (λ it. it.reply) (first_in (map (λ it. it.closed) (reverse (replies ++ one ∷ [])))))
        then drop 1 (filter_map configured_of (reverse (replies ++ one ∷ []))) else filter_map configured_of (reverse (replies ++ one ∷ []))) =
        sym (ap (λ (told : List Replied). if is_configured_reply (option_map (λ it. it.reply) (first_in (map (λ it. it.closed) told)))
        then drop 1 (filter_map configured_of told) else filter_map configured_of told) back
        ∙ word_dropped one.ticket one.closed.reply (filter_map configured_of (reverse replies))) in
        λ i. record {
          begun = begun i;
          answered = drop 1 (map (λ it. it.ticket) (sym back i));
          lost = reverse lost;
          configured = word i;
          answers = drop 1 (map (λ it. it.closed) (sym back i));
        }
