-- What is kept with one operation more, one answered and one lost.
use Rattle.std.proofs.Common.{◌≡◌, ◌<◌, ◌≤◌, ◌+◌, ◌-◌, ℕ, Bool, true, false, cond, if◌then◌else◌, nat_lt, List, [], ◌∷◌, ◌++◌, length, None, Some, refl, sym, ap, subst, ◌∙◌, inl, inr, arith, get_or}
use Rattle.std.proofs.lemmas.Bool.Decides.{nat_tests}
use Rattle.std.proofs.lemmas.List.{length_push}
use Rattle.std.proofs.lemmas.List.Sums.{get_or-le-sum_by, sum_by-set, sum_by_push}
use Rattle.std.proofs.lemmas.Option.{get_or_from_slice_get, slice_get_cases, slice_get_within}
use Rattle.std.proofs.lemmas.Map.Keys.{IsDistinct-cons}
use Rattle.std.specs.Bool.{nat_eq}
use Rattle.std.specs.List.{IsDistinct, count_by, slice_get, slice_set}
use Rattle.pl_lemmas.specs.Words.{some_passes}
use Rattle.pl_events.specs.declared.reply.Reply.{Reply}
use Rattle.pl_events.specs.declared.reply.Reply.TheVariants as reply
use Rattle.pl_model.specs.declared.errand.Errand.{Errand}
use Rattle.pl_errands.specs.declared.lane.Lane.{Lane}
use Rattle.pl_errands.specs.declared.row.Replied.{Replied}
use Rattle.pl_errands.specs.declared.row.Row.{Row}
use Rattle.pl_errands.specs.declared.row.Standing.{Standing}
use Rattle.pl_errands.specs.declared.row.Standing.TheVariants as standing
use Rattle.pl_errands.specs.Agree.{AreKept}
use Rattle.pl_errands.specs.Lanes.{AgreeLanes, changed_at, closed_by, is_out_lane, new_lane, one_more, with_one_more}
use Rattle.pl_errands.specs.Rows.{AgreeRows, is_answered, is_open, is_open_row, standing_of, tickets_by}
use Rattle.pl_errands.specs.Tickets.{Tickets}
use Rattle.pl_errands.proofs.LaneSteps.{begun_next, begun_there, changed-at, closed_lanes, closing_lane, lane_out}
use Rattle.pl_errands.proofs.Lists.{apart_from, set-length}
use Rattle.pl_errands.proofs.RowSteps.{answered_rows, answered_tickets, begun_numbered, begun_rows, closed_numbered, lost_rows, lost_tickets}

abbrev open_row : Errand → Row
open_row errand = record { errand = errand; standing = standing.Open }

none_twice : IsDistinct nat_eq []
unfolding IsDistinct
none_twice = tt

pub none_kept : AreKept [] [] [] [] 0
none_kept = record {
  numbered = λ place row there. absurd (let none : None ≡ Some row = there in cc);
  rows_agree = record { answered = λ number. refl; lost = λ number. refl; configured = λ number. refl };
  once = none_twice;
  lanes_agree = record {
    count = refl;
    first = λ lane. refl;
    out = λ lane. refl;
    configured = λ lane. refl;
    lost = λ lane. refl;
  };
  open_count = refl;
  closed_count = refl;
}

module _ (rows : List Row) (replies : List Replied) (lost : List ℕ) (lanes : List Lane) (open_tickets : ℕ)
    (kept : AreKept rows replies lost lanes open_tickets) where
  -- ---- begun

  begun_lanes : (errand : Errand) → errand.lane ≤ length lanes
      → AgreeLanes (rows ++ open_row errand ∷ []) (with_one_more errand.lane errand.op lanes)
  begun_lanes errand within =
      elim ((slice_get_cases lanes errand.lane).1) [
        | inl there ↦
            let inside : nat_lt errand.lane (length lanes) ≡ true = let h : errand.lane < length lanes = there.1 in grind (arith, nat_tests) in
            let same : with_one_more errand.lane errand.op lanes ≡ slice_set lanes errand.lane (one_more there.0) =
            ap (λ (b : Bool). if b then changed_at one_more errand.lane lanes else lanes ++ new_lane errand.op ∷ []) inside
            ∙ changed-at one_more errand.lane lanes there.0 there.2 in
            subst (AgreeLanes (rows ++ open_row errand ∷ [])) (sym same) (begun_there rows lanes errand kept.lanes_agree there.0 there.2)
        | inr past ↦
            let h : length lanes ≤ errand.lane = past.0 in
            let next : errand.lane ≡ length lanes = omega arith in
            let outside : nat_lt errand.lane (length lanes) ≡ false = grind (arith, nat_tests) in
            let same : with_one_more errand.lane errand.op lanes ≡ lanes ++ new_lane errand.op ∷ [] =
            ap (λ (b : Bool). if b then changed_at one_more errand.lane lanes else lanes ++ new_lane errand.op ∷ []) outside in
            subst (AgreeLanes (rows ++ open_row errand ∷ [])) (sym same) (begun_next rows lanes errand kept.lanes_agree next)
      ]

  pub begun_kept : (errand : Errand) → errand.ticket ≡ length rows → errand.lane ≤ length lanes
      → AreKept (rows ++ open_row errand ∷ []) replies lost (with_one_more errand.lane errand.op lanes) (open_tickets + 1)
  begun_kept errand next within = record {
    numbered = begun_numbered rows replies lost errand kept.numbered next;
    rows_agree = begun_rows rows replies lost errand kept.rows_agree;
    once = kept.once;
    lanes_agree = begun_lanes errand within;
    open_count = sum_by_push (λ row. cond (is_open_row row) 1 0) rows (open_row errand) ∙ ap (λ (n : ℕ). n + 1) kept.open_count;
    closed_count =
        let longer : length (rows ++ open_row errand ∷ []) ≡ length rows + 1 = length_push rows (open_row errand) in
        let all : open_tickets + length replies + length lost ≡ length rows = kept.closed_count in
        omega arith;
  }

  -- ---- closed

  module _ (ticket : ℕ) (errand : Errand) (was : slice_get rows ticket ≡ Some (open_row errand)) where
    pub some_open : 1 ≤ open_tickets
    some_open =
        let inside : ticket < length rows = slice_get_within rows ticket (open_row errand) was in
        let at : cond (is_open_row (get_or rows ticket (open_row errand))) 1 0 ≡ 1 =
        ap (λ row. cond (is_open_row row) 1 0) (get_or_from_slice_get rows ticket (open_row errand) (open_row errand) was) in
        let most : cond (is_open_row (get_or rows ticket (open_row errand))) 1 0 ≤ count_by is_open_row rows =
        get_or-le-sum_by (λ row. cond (is_open_row row) 1 0) rows ticket (open_row errand) inside in
        let least : 1 ≤ count_by is_open_row rows = subst (λ (n : ℕ). n ≤ count_by is_open_row rows) at most in
        subst (λ (n : ℕ). 1 ≤ n) kept.open_count least

    pub out_there : some_passes is_out_lane (slice_get lanes errand.lane) ≡ true
    out_there =
        let lane = closing_lane rows lanes ticket errand kept.lanes_agree was in
        lane_out rows lanes ticket errand kept.lanes_agree was lane.0 lane.1

    closed_count : (became : Standing) → is_open became ≡ false
        → count_by is_open_row (slice_set rows ticket (record { errand = errand; standing = became })) ≡ open_tickets - 1
    closed_count became closes =
        let row : Row = record { errand = errand; standing = became } in
        let inside : ticket < length rows = slice_get_within rows ticket (open_row errand) was in
        let at : cond (is_open_row (get_or rows ticket (open_row errand))) 1 0 ≡ 1 =
        ap (λ one. cond (is_open_row one) 1 0) (get_or_from_slice_get rows ticket (open_row errand) (open_row errand) was) in
        let none : cond (is_open became) 1 0 ≡ 0 = ap (λ (b : Bool). cond b 1 0) closes in
        let written : count_by is_open_row (slice_set rows ticket (record { errand = errand; standing = became })) + cond (is_open_row (get_or rows ticket (open_row errand))) 1 0
        ≡ count_by is_open_row rows + cond (is_open became) 1 0 =
        sum_by-set (λ one. cond (is_open_row one) 1 0) rows ticket (record { errand = errand; standing = became }) (open_row errand) inside in
        let e : count_by is_open_row (slice_set rows ticket (record { errand = errand; standing = became })) + 1 ≡ open_tickets + 0 =
        ap (λ (n : ℕ). count_by is_open_row (slice_set rows ticket (record { errand = errand; standing = became })) + n) (sym at) ∙ written
        ∙ ap (λ (n : ℕ). count_by is_open_row rows + n) none ∙ ap (λ (n : ℕ). n + 0) kept.open_count in
        omega arith

    closing_lanes : (became : Standing) → is_open became ≡ false
        → AgreeLanes (slice_set rows ticket (record { errand = errand; standing = became })) (changed_at (closed_by became) errand.lane lanes)
    closing_lanes became closes =
        let lane = closing_lane rows lanes ticket errand kept.lanes_agree was in
        subst (AgreeLanes (slice_set rows ticket (record { errand = errand; standing = became })))
        (sym (changed-at (closed_by became) errand.lane lanes lane.0 lane.1))
        (closed_lanes rows lanes ticket errand kept.lanes_agree was lane.0 lane.1 became closes)

    is_closing : (told : Reply) → is_open (standing_of told) ≡ false
    is_closing reply.Configured = refl
    is_closing _ = refl

    pub answered_kept : (told : Reply)
        → AreKept (slice_set rows ticket (record { errand = errand; standing = standing_of told }))
        (replies ++ (record { ticket = ticket; closed = record { op = errand.op; reply = told } }) ∷ []) lost
        (changed_at (closed_by (standing_of told)) errand.lane lanes) (open_tickets - 1)
    answered_kept told = record {
      numbered = closed_numbered rows ticket errand (standing_of told) kept.numbered was;
      rows_agree = subst (AgreeRows (slice_set rows ticket (record { errand = errand; standing = standing_of told })))
          (sym (answered_tickets rows replies lost ticket errand told was kept.numbered))
          (answered_rows rows replies lost ticket errand told was kept.rows_agree);
      once = subst (λ (told : Tickets). IsDistinct nat_eq told.answered)
          (sym (answered_tickets rows replies lost ticket errand told was kept.numbered))
          (IsDistinct-cons nat_eq ticket (tickets_by rows replies lost).answered
          (apart_from ticket (tickets_by rows replies lost).answered
          (kept.rows_agree.answered ticket ∙ ap (some_passes (λ row. is_answered row.standing)) was)) kept.once);
      lanes_agree = closing_lanes (standing_of told) (is_closing told);
      open_count = closed_count (standing_of told) (is_closing told);
      closed_count =
          let longer : length (replies ++ (record { ticket = ticket; closed = record { op = errand.op; reply = told } }) ∷ []) ≡ length replies + 1 = length_push replies (record { ticket = ticket; closed = record { op = errand.op; reply = told } }) in
          let all : open_tickets + length replies + length lost ≡ length rows = kept.closed_count in
          let some : 1 ≤ open_tickets = some_open in
          let same = set-length rows ticket (record { errand = errand; standing = standing_of told }) in
          omega arith ∙ sym same;
    }

    pub lost_kept : AreKept (slice_set rows ticket (record { errand = errand; standing = standing.Lost })) replies (lost ++ ticket ∷ [])
        (changed_at (closed_by standing.Lost) errand.lane lanes) (open_tickets - 1)
    lost_kept = record {
      numbered = closed_numbered rows ticket errand standing.Lost kept.numbered was;
      rows_agree = subst (AgreeRows (slice_set rows ticket (record { errand = errand; standing = standing.Lost })))
          (sym (lost_tickets rows replies lost ticket errand was))
          (lost_rows rows replies lost ticket errand was kept.rows_agree);
      once = kept.once;
      lanes_agree = closing_lanes standing.Lost refl;
      open_count = closed_count standing.Lost refl;
      closed_count =
          let longer : length (lost ++ ticket ∷ []) ≡ length lost + 1 = length_push lost ticket in
          let all : open_tickets + length replies + length lost ≡ length rows = kept.closed_count in
          let some : 1 ≤ open_tickets = some_open in
          let same = set-length rows ticket (record { errand = errand; standing = standing.Lost }) in
          omega arith ∙ sym same;
    }
