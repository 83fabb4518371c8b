-- The first check or configuration of a provider, by the first provider that wants a lane.
use Rattle.std.proofs.Common.{◌≡◌, ℕ, Bool, true, false, ◌||◌, cond, List, [], ◌∷◌, ◌++◌, find, map, reverse, Option, Some, None, option_map, is_some, refl, sym, ◌∙◌, ap}
use Rattle.std.proofs.Math.Bool.{or-true}
use Rattle.std.proofs.lemmas.Option.{none-some}
use Rattle.std.specs.List.{flat_map, range_with_len}
use Rattle.std.specs.Option.{option_or}
use Rattle.pl_lemmas.proofs.Numbers.{same_number}
use Rattle.pl_events.specs.Lanes.{LanesTold}
use Rattle.pl_events.specs.declared.operation.Op.TheVariants as op
use Rattle.pl_events.specs.declared.operation.Source.{Source}
use Rattle.pl_events.specs.declared.operation.Source.TheVariants as source
use Rattle.pl_events.specs.declared.operation.Subject.TheVariants as subject
use Rattle.pl_model.specs.Due.{configures_of, goal_numbers, is_wanted_op, operations_of}
use Rattle.pl_model.specs.Known.{Known}
use Rattle.pl_model.specs.Rows.{row_numbers}
use Rattle.pl_model.specs.Tickets.{is_source, lane_count, same_source}
use Rattle.pl_due.specs.Now.{checked_there, config_op, configures_now, first_wanting, row_config, sends_now, wants_for}
use Rattle.pl_due.specs.Seen.{known_in}
use Rattle.pl_due.specs.declared.seen.Seen.{Seen}
use Rattle.pl_due.proofs.Finding.{find_append, find_mapped, find_two, found_passes, found_same, nothing_found}
use Rattle.pl_due.proofs.Orders.{same_is}

-- one that does not pass is not what is found
not_found : (p : Source → Bool) (xs : List Source) (one : Source) → p one ≡ false → is_source (find p xs) one ≡ false
not_found p xs one fails = by (find p xs) refl
  where
    at : (other : Source) → find p xs ≡ Some other → (b : Bool) → same_source other one ≡ b → b ≡ false
    at other found true is =
        let passes : p one ≡ true = ap p (sym (same_is other one is)) ∙ found_passes p xs other found in
        let e : true ≡ false = sym passes ∙ fails in e
    at other found false is = refl

    by : (o : Option Source) → find p xs ≡ o → is_source o one ≡ false
    by None found = refl
    by (Some other) found = at other found (same_source other one) refl

-- the first goal that passes one test, or wants, is the first that passes it, or is the first provider that wants
first_goal : (test : ℕ → Bool) (wants : Source → Bool) (goals : List ℕ) (others : List Source)
    → find (λ number. test number || wants (source.Goal number)) goals
    ≡ find (λ number. test number || is_source (find wants (map source.Goal goals ++ others)) (source.Goal number)) goals
first_goal test wants [] others = refl
first_goal test wants (goal ∷ goals) others = by (wants (source.Goal goal)) refl (first_goal test wants goals others)
  where
    by : (b : Bool) → wants (source.Goal goal) ≡ b
        → find (λ number. test number || wants (source.Goal number)) goals
        ≡ find (λ number. test number || is_source (find wants (map source.Goal goals ++ others)) (source.Goal number)) goals
        → cond (test goal || b) (Some goal) (find (λ number. test number || wants (source.Goal number)) goals)
        ≡ cond (test goal || is_source (cond b (Some (source.Goal goal)) (find wants (map source.Goal goals ++ others))) (source.Goal goal)) (Some goal)
        (find (λ number. test number || is_source (cond b (Some (source.Goal goal)) (find wants (map source.Goal goals ++ others))) (source.Goal number)) goals)
    by true is rest =
        ap (λ (b : Bool). cond b (Some goal) (find (λ number. test number || wants (source.Goal number)) goals)) (or-true (test goal))
        ∙ sym (ap (λ (b : Bool). cond b (Some goal)
        (find (λ number. test number || is_source (Some (source.Goal goal)) (source.Goal number)) goals))
        (ap (λ (b : Bool). test goal || b) (same_number goal) ∙ or-true (test goal)))
    by false is rest =
        ap (λ (b : Bool). cond (test goal || b) (Some goal) (find (λ number. test number || wants (source.Goal number)) goals))
        (sym (not_found wants (map source.Goal goals ++ others) (source.Goal goal) is))
        ∙ ap (λ (o : Option ℕ). cond (test goal || is_source (find wants (map source.Goal goals ++ others)) (source.Goal goal)) (Some goal) o) rest

none_weaker : (p q : ℕ → Bool) (ns : List ℕ) → find (λ n. p n || q n) ns ≡ None → find q ns ≡ None
none_weaker p q [] h = refl
none_weaker p q (n ∷ ns) h = by (p n) (q n) h (none_weaker p q ns)
  where
    by : (a b : Bool) → cond (a || b) (Some n) (find (λ n. p n || q n) ns) ≡ None
        → (find (λ n. p n || q n) ns ≡ None → find q ns ≡ None) → cond b (Some n) (find q ns) ≡ None
    by true b h rest = absurd (none-some n (sym h))
    by false true h rest = absurd (none-some n (sym h))
    by false false h rest = rest h

module _ (seen : Seen) (table : LanesTold) where
  abbrev known : Known
  known = known_in seen

  abbrev wants : Source → Bool
  wants = wants_for seen (operations_of known)

  abbrev wanting : Option Source
  wanting = first_wanting seen (operations_of known)

  abbrev goal_rows : List ℕ
  goal_rows = reverse (row_numbers known)

  abbrev is_ready : ℕ → Bool
  is_ready number = is_wanted_op known (op.CheckConfig (subject.Goal number)) || is_some (checked_there known (source.Goal number))

  or_flat : (a b c : Bool) → (a || (b || c)) ≡ ((a || b) || c)
  or_flat true b c = refl
  or_flat false b c = refl

  -- the goals whose providers are checked or configured
  goals_same : find (λ number. sends_now seen table (op.CheckConfig (subject.Goal number)) || sends_now seen table (op.Configure (source.Goal number))) (goal_numbers known)
      ≡ find (configures_now seen wanting) (goal_numbers known)
  goals_same =
      found_same (λ number. sends_now seen table (op.CheckConfig (subject.Goal number)) || sends_now seen table (op.Configure (source.Goal number)))
      (λ number. is_ready number || wants (source.Goal number))
      (λ number. or_flat (is_wanted_op known (op.CheckConfig (subject.Goal number))) (is_some (checked_there known (source.Goal number))) (wants (source.Goal number)))
      (goal_numbers known)
      ∙ first_goal is_ready wants (goal_numbers known) (map source.Row goal_rows)
      ∙ found_same (λ number. is_ready number || is_source wanting (source.Goal number)) (configures_now seen wanting)
      (λ number. sym (or_flat (is_wanted_op known (op.CheckConfig (subject.Goal number))) (is_some (checked_there known (source.Goal number))) (is_source wanting (source.Goal number))))
      (goal_numbers known)

  of_goals : find (sends_now seen table) (flat_map (λ number. op.CheckConfig (subject.Goal number) ∷ op.Configure (source.Goal number) ∷ []) (goal_numbers known))
      ≡ option_map (config_op seen) (find (configures_now seen wanting) (goal_numbers known))
  of_goals =
      find_two (sends_now seen table) (λ number. op.CheckConfig (subject.Goal number)) (λ number. op.Configure (source.Goal number)) (goal_numbers known)
      ∙ ap (λ (o : Option ℕ). option_map (config_op seen) o) goals_same

  of_rows : find (sends_now seen table) (map (λ row. op.Configure (source.Row row)) goal_rows)
      ≡ option_map (λ row. op.Configure (source.Row row)) (find (λ row. wants (source.Row row)) goal_rows)
  of_rows =
      find_mapped (sends_now seen table) (λ row. op.Configure (source.Row row)) goal_rows
      ∙ ap (λ (o : Option ℕ). option_map (λ row. op.Configure (source.Row row)) o)
      (found_same (λ row. sends_now seen table (op.Configure (source.Row row))) (λ row. wants (source.Row row))
      (λ row. ap (λ (o : Option ℕ). is_some o || wants (source.Row row)) (nothing_found (range_with_len 0 (lane_count known.history)))) goal_rows)

  both : find (sends_now seen table) (configures_of known)
      ≡ option_or (option_map (config_op seen) (find (configures_now seen wanting) (goal_numbers known)))
      (option_map (λ row. op.Configure (source.Row row)) (find (λ row. wants (source.Row row)) goal_rows))
  both =
      find_append (sends_now seen table) (flat_map (λ number. op.CheckConfig (subject.Goal number) ∷ op.Configure (source.Goal number) ∷ []) (goal_numbers known))
      (map (λ row. op.Configure (source.Row row)) goal_rows)
      ∙ (λ i. option_or (of_goals i) (of_rows i))

  pub config_found : (number : ℕ) → find (configures_now seen wanting) (goal_numbers known) ≡ Some number
      → Some (config_op seen number) ≡ find (sends_now seen table) (configures_of known)
  config_found number is =
      sym (both ∙ ap (λ (o : Option ℕ). option_or (option_map (config_op seen) o)
      (option_map (λ row. op.Configure (source.Row row)) (find (λ row. wants (source.Row row)) goal_rows))) is)

  -- where no goal is, the first provider that wants a lane is a row
  wanting_row : find (configures_now seen wanting) (goal_numbers known) ≡ None
      → wanting ≡ option_map source.Row (find (λ row. wants (source.Row row)) goal_rows)
  wanting_row none =
      find_append wants (map source.Goal (goal_numbers known)) (map source.Row goal_rows)
      ∙ (λ i. option_or (find_mapped wants source.Goal (goal_numbers known) i) (find_mapped wants source.Row goal_rows i))
      ∙ ap (λ (o : Option ℕ). option_or (option_map source.Goal o) (option_map source.Row (find (λ row. wants (source.Row row)) goal_rows)))
      (none_weaker is_ready (λ number. wants (source.Goal number)) (goal_numbers known)
      (found_same (λ number. is_ready number || wants (source.Goal number))
      (λ number. sends_now seen table (op.CheckConfig (subject.Goal number)) || sends_now seen table (op.Configure (source.Goal number)))
      (λ number. sym (or_flat (is_wanted_op known (op.CheckConfig (subject.Goal number))) (is_some (checked_there known (source.Goal number))) (wants (source.Goal number))))
      (goal_numbers known) ∙ goals_same ∙ none))

  rows_made : (o : Option ℕ) → row_config (option_map source.Row o) ≡ option_map (λ row. op.Configure (source.Row row)) o
  rows_made None = refl
  rows_made (Some row) = refl

  pub config_none : find (configures_now seen wanting) (goal_numbers known) ≡ None
      → row_config wanting ≡ find (sends_now seen table) (configures_of known)
  config_none none =
      ap row_config (wanting_row none)
      ∙ rows_made (find (λ row. wants (source.Row row)) goal_rows)
      ∙ sym (both ∙ ap (λ (o : Option ℕ). option_or (option_map (config_op seen) o)
      (option_map (λ row. op.Configure (source.Row row)) (find (λ row. wants (source.Row row)) goal_rows))) none)
