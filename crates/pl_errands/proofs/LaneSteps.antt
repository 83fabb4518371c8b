-- The lanes with one operation more, and with one less.
use Rattle.std.proofs.Common.{◌≡◌, ◌<◌, ◌≤◌, ◌+◌, ℕ, Bool, true, false, ◌==◌, ◌&&◌, ◌||◌, cond, max, nat_lt, List, [], ◌∷◌, ◌++◌, length, map, Option, Some, None, option_map, refl, sym, ap, subst, ◌∙◌, arith, get_or}
use Rattle.std.proofs.lemmas.Bool.Decides.{nat_tests}
use Rattle.std.proofs.lemmas.List.{map_push, length_push}
use Rattle.std.proofs.lemmas.List.Folds.{find-append}
use Rattle.std.proofs.lemmas.List.Sums.{get_or-le-sum_by, sum_by-set, sum_by_push}
use Rattle.std.proofs.lemmas.Option.{get_or_from_slice_get, slice_get-map, slice_get_past, slice_get_within}
use Rattle.std.specs.List.{count_by, find, list_any, slice_get, slice_set}
use Rattle.std.specs.Option.{option_or}
use Rattle.std.proofs.Math.Bool.{and-false, and-true}
use Rattle.pl_lemmas.proofs.Options.{or_none}
use Rattle.pl_value.specs.Inside.{greatest}
use Rattle.pl_lemmas.specs.Words.{some_passes}
use Rattle.pl_events.specs.declared.operation.Source.{Source}
use Rattle.pl_model.specs.declared.errand.Errand.{Errand}
use Rattle.pl_model.specs.Tickets.{source_begun}
use Rattle.pl_errands.specs.declared.lane.Lane.{Lane}
use Rattle.pl_errands.specs.declared.row.Row.{Row}
use Rattle.pl_errands.specs.declared.row.Standing.{Standing}
use Rattle.pl_errands.specs.declared.row.Standing.TheVariants as standing
use Rattle.pl_errands.specs.Rows.{is_configured, is_lost, is_open, is_open_row}
use Rattle.pl_errands.specs.Lanes.{AgreeLanes, changed_at, closed_by, errands_in, first_source, is_out_lane, new_lane, one_more, out_of}
use Rattle.pl_errands.proofs.Lists.{any-found, any-push, any-set, get-push, get-set, get-set_same, greatest-push, map-set_same, option_map-option_or, passes-push, passes-set, set-length}

abbrev pub is_on : ℕ → Row → Bool
is_on lane row = row.errand.lane == lane && is_open_row row

abbrev pub after : Errand → ℕ
after errand = errand.lane + 1

pub changed-at : (change : Lane → Lane) (at : ℕ) (lanes : List Lane) (was : Lane) → slice_get lanes at ≡ Some was
    → changed_at change at lanes ≡ slice_set lanes at (change was)
changed-at change at lanes was is =
    ap (λ (o : Option Lane). elim o [ None ↦ lanes | Some one ↦ slice_set lanes at (change one) ]) is

pub changed-length : (change : Lane → Lane) (at : ℕ) (lanes : List Lane) → length (changed_at change at lanes) ≡ length lanes
changed-length change at lanes = by (slice_get lanes at)
  where
    by : (o : Option Lane) → length {A = Lane} (elim o [ None ↦ lanes | Some one ↦ slice_set lanes at (change one) ]) ≡ length lanes
    by None = refl
    by (Some one) = set-length lanes at (change one)

-- ---- one operation more

module _ (rows : List Row) (lanes : List Lane) (errand : Errand) (agree : AgreeLanes rows lanes) where
  abbrev more : Row
  more = record { errand = errand; standing = standing.Open }

  more_errands : errands_in (rows ++ more ∷ []) ≡ errands_in rows ++ errand ∷ []
  more_errands = map_push (λ row. row.errand) rows more

  more_count : greatest (map after (errands_in (rows ++ more ∷ []))) ≡ max (errand.lane + 1) (length lanes)
  more_count =
      ap (λ (errands : List Errand). greatest (map after errands)) more_errands
      ∙ greatest-push after (errands_in rows) errand
      ∙ ap (max (errand.lane + 1)) agree.count

  more_first : (lane : ℕ) → first_source (errands_in (rows ++ more ∷ [])) lane
      ≡ option_or (option_map (λ one. one.source) (slice_get lanes lane)) (cond (errand.lane == lane) (Some (source_begun errand.op)) None)
  more_first lane =
      ap (λ (errands : List Errand). first_source errands lane) more_errands
      ∙ ap (option_map (λ one. source_begun one.op)) (find-append (λ one. one.lane == lane) (errands_in rows) (errand ∷ []))
      ∙ option_map-option_or (λ one. source_begun one.op) (find (λ one. one.lane == lane) (errands_in rows)) (errand.lane == lane) errand
      ∙ ap (λ (o : Option (Option Source)). option_or o (cond (errand.lane == lane) (Some (source_begun errand.op)) None)) (agree.first lane)

  more_out : (lane : ℕ) → count_by (is_on lane) (rows ++ more ∷ []) ≡ out_of (slice_get lanes lane) + cond (errand.lane == lane) 1 0
  more_out lane =
      sum_by_push (λ row. cond (is_on lane row) 1 0) rows more
      ∙ ap (λ (b : Bool). count_by (is_on lane) rows + cond b 1 0) (and-true (errand.lane == lane))
      ∙ ap (λ (n : ℕ). n + cond (errand.lane == lane) 1 0) (agree.out lane)

  more_configured : (lane : ℕ) → list_any (λ row. row.errand.lane == lane && is_configured row.standing) (rows ++ more ∷ [])
      ≡ some_passes (λ one. one.configured) (slice_get lanes lane)
  more_configured lane =
      any-push (λ row. row.errand.lane == lane && is_configured row.standing) rows more (and-false (errand.lane == lane))
      ∙ agree.configured lane

  more_lost : (lane : ℕ) → list_any (λ row. row.errand.lane == lane && is_lost row.standing) (rows ++ more ∷ [])
      ≡ some_passes (λ one. one.lost) (slice_get lanes lane)
  more_lost lane =
      any-push (λ row. row.errand.lane == lane && is_lost row.standing) rows more (and-false (errand.lane == lane))
      ∙ agree.lost lane

  -- on a lane that is there
  module _ (was : Lane) (is : slice_get lanes errand.lane ≡ Some was) where
    there_count : max (errand.lane + 1) (length lanes) ≡ length (slice_set lanes errand.lane (one_more was))
    there_count =
        let inside : errand.lane < length lanes = slice_get_within lanes errand.lane was is in
        let most : max (errand.lane + 1) (length lanes) ≡ length lanes = grind arith in
        most ∙ sym (set-length lanes errand.lane (one_more was))

    same_lane : (lane : ℕ) → (errand.lane == lane) ≡ true → slice_get lanes lane ≡ Some was
    same_lane lane same =
        let e : errand.lane ≡ lane = grind (arith, nat_tests) in
        ap (slice_get lanes) (sym e) ∙ is

    there_first : (lane : ℕ) (b : Bool) → (errand.lane == lane) ≡ b
        → option_or (option_map (λ one. one.source) (slice_get lanes lane)) (cond b (Some (source_begun errand.op)) None)
        ≡ option_map (λ one. one.source) (slice_get lanes lane)
    there_first lane true same =
        let here = same_lane lane same in
        ap (λ (o : Option Lane). option_or (option_map (λ one. one.source) o) (Some (source_begun errand.op))) here
        ∙ sym (ap (option_map (λ one. one.source)) here)
    there_first lane false other = or_none (option_map (λ one. one.source) (slice_get lanes lane))

    there_out : (lane : ℕ) (b : Bool) → (errand.lane == lane) ≡ b
        → out_of (slice_get lanes lane) + cond b 1 0 ≡ out_of (cond b (Some (one_more was)) (slice_get lanes lane))
    there_out lane true same = ap (λ (o : Option Lane). out_of o + 1) (same_lane lane same)
    there_out lane false other = omega arith

    pub begun_there : AgreeLanes (rows ++ more ∷ []) (slice_set lanes errand.lane (one_more was))
    begun_there = record {
      count = more_count ∙ there_count;
      first = λ lane.
          more_first lane ∙ there_first lane (errand.lane == lane) refl
          ∙ sym (get-set_same (λ one. one.source) lanes errand.lane was (one_more was) is refl lane);
      out = λ lane.
          more_out lane ∙ there_out lane (errand.lane == lane) refl
          ∙ sym (ap out_of (get-set lanes errand.lane was (one_more was) is lane));
      configured = λ lane.
          more_configured lane
          ∙ sym (passes-set (λ one. one.configured) false lanes errand.lane was (one_more was) is refl lane
          ∙ ap (λ (b : Bool). b || some_passes (λ one. one.configured) (slice_get lanes lane)) (and-false (errand.lane == lane)));
      lost = λ lane.
          more_lost lane
          ∙ sym (passes-set (λ one. one.lost) false lanes errand.lane was (one_more was) is refl lane
          ∙ ap (λ (b : Bool). b || some_passes (λ one. one.lost) (slice_get lanes lane)) (and-false (errand.lane == lane)));
    }

  -- on the next lane
  module _ (next : errand.lane ≡ length lanes) where
    abbrev fresh : Lane
    fresh = new_lane errand.op

    next_count : max (errand.lane + 1) (length lanes) ≡ length (lanes ++ fresh ∷ [])
    next_count =
        let longer : length (lanes ++ fresh ∷ []) ≡ length lanes + 1 = length_push lanes fresh in
        grind arith

    next_first : (lane : ℕ) → option_map (λ one. one.source) (slice_get (lanes ++ fresh ∷ []) lane)
        ≡ option_or (option_map (λ one. one.source) (slice_get lanes lane)) (cond (errand.lane == lane) (Some (source_begun errand.op)) None)
    next_first lane =
        ap (option_map (λ one. one.source)) (get-push lanes fresh lane)
        ∙ option_map-option_or (λ one. one.source) (slice_get lanes lane) (length lanes == lane) fresh
        ∙ ap (λ (n : ℕ). option_or (option_map (λ one. one.source) (slice_get lanes lane)) (cond (n == lane) (Some (source_begun errand.op)) None)) (sym next)

    next_out : (lane : ℕ) (b : Bool) → (errand.lane == lane) ≡ b
        → out_of (slice_get lanes lane) + cond b 1 0 ≡ out_of (option_or (slice_get lanes lane) (cond b (Some fresh) None))
    next_out lane true same =
        let past : length lanes ≤ lane = grind (arith, nat_tests) in
        let none : slice_get lanes lane ≡ None = slice_get_past lanes lane past in
        ap (λ (o : Option Lane). out_of o + 1) none
        ∙ sym (ap (λ (o : Option Lane). out_of (option_or o (Some fresh))) none)
    next_out lane false other =
        let none : out_of (option_or (slice_get lanes lane) None) ≡ out_of (slice_get lanes lane) = ap out_of (or_none (slice_get lanes lane)) in
        omega arith

    pub begun_next : AgreeLanes (rows ++ more ∷ []) (lanes ++ fresh ∷ [])
    begun_next = record {
      count = more_count ∙ next_count;
      first = λ lane. more_first lane ∙ sym (next_first lane);
      out = λ lane.
          more_out lane ∙ next_out lane (errand.lane == lane) refl
          ∙ ap (λ (n : ℕ). out_of (option_or (slice_get lanes lane) (cond (n == lane) (Some fresh) None))) next
          ∙ sym (ap out_of (get-push lanes fresh lane));
      configured = λ lane. more_configured lane ∙ sym (passes-push (λ one. one.configured) lanes fresh lane refl);
      lost = λ lane. more_lost lane ∙ sym (passes-push (λ one. one.lost) lanes fresh lane refl);
    }

-- ---- the lane of an operation

-- it is there
module _ (rows : List Row) (lanes : List Lane) (agree : AgreeLanes rows lanes) (ticket : ℕ) (errand : Errand)
    (here : slice_get (errands_in rows) ticket ≡ Some errand) where
  lane_there : (o : Option Lane) → (found : Errand) → find (λ one. one.lane == errand.lane) (errands_in rows) ≡ Some found
      → first_source (errands_in rows) errand.lane ≡ option_map (λ one. one.source) o → (lane : Lane) × (o ≡ Some lane)
  lane_there (Some lane) found is first = (lane, refl)
  lane_there None found is first =
      absurd (let e : Some (source_begun found.op) ≡ None = sym (ap (option_map (λ one. source_begun one.op)) is) ∙ first in cc)

  pub lane_of : (lane : Lane) × (slice_get lanes errand.lane ≡ Some lane)
  lane_of =
      let own : (errand.lane == errand.lane) ≡ true = grind (arith, nat_tests) in
      let found = any-found (λ one. one.lane == errand.lane) (errands_in rows) ticket errand here own in
      lane_there (slice_get lanes errand.lane) found.0 found.1 (agree.first errand.lane)

-- ---- one operation less

module _ (rows : List Row) (lanes : List Lane) (ticket : ℕ) (errand : Errand) (agree : AgreeLanes rows lanes)
    (is : slice_get rows ticket ≡ Some (record { errand = errand; standing = standing.Open })) where
  abbrev begun : Row
  begun = record { errand = errand; standing = standing.Open }

  -- the lane of an open ticket is there, and is out
  pub closing_lane : (lane : Lane) × (slice_get lanes errand.lane ≡ Some lane)
  closing_lane =
      lane_of rows lanes agree ticket errand
      (slice_get-map (λ row. row.errand) rows ticket ∙ ap (option_map (λ row. row.errand)) is)

  one_out : 1 ≤ count_by (is_on errand.lane) rows
  one_out =
      let inside : ticket < length rows = slice_get_within rows ticket begun is in
      let own : (errand.lane == errand.lane) ≡ true = grind (arith, nat_tests) in
      let here : cond (is_on errand.lane begun) 1 0 ≡ 1 = ap (λ (b : Bool). cond (b && true) 1 0) own in
      let at : cond (is_on errand.lane (get_or rows ticket begun)) 1 0 ≡ cond (is_on errand.lane begun) 1 0 =
      ap (λ row. cond (is_on errand.lane row) 1 0) (get_or_from_slice_get rows ticket begun begun is) in
      let most : cond (is_on errand.lane (get_or rows ticket begun)) 1 0 ≤ count_by (is_on errand.lane) rows =
      get_or-le-sum_by (λ row. cond (is_on errand.lane row) 1 0) rows ticket begun inside in
      let least : 1 ≡ cond (is_on errand.lane (get_or rows ticket begun)) 1 0 = sym (at ∙ here) in
      subst (λ (n : ℕ). n ≤ count_by (is_on errand.lane) rows) (sym least) most

  module _ (was : Lane) (there : slice_get lanes errand.lane ≡ Some was) where
    was_out : 1 ≤ was.out
    was_out =
        let e : count_by (is_on errand.lane) rows ≡ was.out = agree.out errand.lane ∙ ap out_of there in
        let h : 1 ≤ count_by (is_on errand.lane) rows = one_out in
        omega arith

    pub lane_out : some_passes is_out_lane (slice_get lanes errand.lane) ≡ true
    lane_out =
        let h : 1 ≤ was.out = was_out in
        let out : nat_lt 0 was.out ≡ true = grind (arith, nat_tests) in
        ap (some_passes is_out_lane) there ∙ out

    module _ (became : Standing) (fails : is_open became ≡ false) where
      abbrev row : Row
      row = record { errand = errand; standing = became }

      abbrev rows_after : List Row
      rows_after = slice_set rows ticket row

      same_errands : errands_in rows_after ≡ errands_in rows
      same_errands = map-set_same (λ one. one.errand) rows ticket begun row is refl

      less_out : (lane : ℕ) (b : Bool) → (errand.lane == lane) ≡ b
          → count_by (is_on lane) rows_after ≡ out_of (cond b (Some (closed_by became was)) (slice_get lanes lane))
      less_out lane b same =
          let inside : ticket < length rows = slice_get_within rows ticket begun is in
          let at : cond (is_on lane (get_or rows ticket begun)) 1 0 ≡ cond (is_on lane begun) 1 0 =
          ap (λ one. cond (is_on lane one) 1 0) (get_or_from_slice_get rows ticket begun begun is) in
          let before : cond (is_on lane begun) 1 0 ≡ cond b 1 0 =
          ap (λ (c : Bool). cond c 1 0) (and-true (errand.lane == lane) ∙ same) in
          let written : count_by (is_on lane) rows_after + cond (is_on lane (get_or rows ticket begun)) 1 0
          ≡ count_by (is_on lane) rows + cond (is_on lane row) 1 0 =
          sum_by-set (λ one. cond (is_on lane one) 1 0) rows ticket row begun inside in
          let none : cond (is_on lane row) 1 0 ≡ 0 =
          ap (λ (c : Bool). cond ((errand.lane == lane) && c) 1 0) fails ∙ ap (λ (c : Bool). cond c 1 0) (and-false (errand.lane == lane)) in
          let e : count_by (is_on lane) rows_after + cond b 1 0 ≡ count_by (is_on lane) rows + 0 =
          ap (λ (n : ℕ). count_by (is_on lane) rows_after + n) (sym (at ∙ before)) ∙ written
          ∙ ap (λ (n : ℕ). count_by (is_on lane) rows + n) none in
          by b same (e ∙ omega arith)
        where
          by : (b : Bool) → (errand.lane == lane) ≡ b → count_by (is_on lane) rows_after + cond b 1 0 ≡ count_by (is_on lane) rows
              → count_by (is_on lane) rows_after ≡ out_of (cond b (Some (closed_by became was)) (slice_get lanes lane))
          by true same e =
              let here : errand.lane ≡ lane = grind (arith, nat_tests) in
              let all : count_by (is_on lane) rows ≡ was.out =
              agree.out lane ∙ ap (λ (n : ℕ). out_of (slice_get lanes n)) (sym here) ∙ ap out_of there in
              omega arith
          by false same e =
              let all : count_by (is_on lane) rows ≡ out_of (slice_get lanes lane) = agree.out lane in
              omega arith

      pub closed_lanes : AgreeLanes rows_after (slice_set lanes errand.lane (closed_by became was))
      closed_lanes = record {
        count = ap (λ (errands : List Errand). greatest (map after errands)) same_errands ∙ agree.count
            ∙ sym (set-length lanes errand.lane (closed_by became was));
        first = λ lane.
            ap (λ (errands : List Errand). first_source errands lane) same_errands ∙ agree.first lane
            ∙ sym (get-set_same (λ one. one.source) lanes errand.lane was (closed_by became was) there refl lane);
        out = λ lane.
            less_out lane (errand.lane == lane) refl
            ∙ sym (ap out_of (get-set lanes errand.lane was (closed_by became was) there lane));
        configured = λ lane.
            any-set (λ one. one.errand.lane == lane && is_configured one.standing) rows ticket begun row is (and-false (errand.lane == lane))
            ∙ ap (λ (b : Bool). ((errand.lane == lane) && is_configured became) || b) (agree.configured lane)
            ∙ sym (passes-set (λ one. one.configured) (is_configured became) lanes errand.lane was (closed_by became was) there refl lane);
        lost = λ lane.
            any-set (λ one. one.errand.lane == lane && is_lost one.standing) rows ticket begun row is (and-false (errand.lane == lane))
            ∙ ap (λ (b : Bool). ((errand.lane == lane) && is_lost became) || b) (agree.lost lane)
            ∙ sym (passes-set (λ one. one.lost) (is_lost became) lanes errand.lane was (closed_by became was) there refl lane);
      }
