use Rattle.std.proofs.Common.{◌≡◌, ◌∙◌, cond, List, [], ◌∷◌, ◌++◌, length, reverse, Some, Result, Ok, Err, sym, ap, subst, rules}
use Rattle.std.proofs.lemmas.List.Elements.{All-cons}
use Rattle.std.proofs.lemmas.Map.Text.{hash_map_updates_text}
use Rattle.std.specs.HashMap.{get_by_text}
use Rattle.std.specs.Result.{IsOk, OnOk}
use Rattle.std.specs.Str.{bytes_eq}
use Rattle.std.specs.String.{string_bytes}
use Rattle.pl_options.specs.Refused.{HasPaths}
use Rattle.pl_state.specs.declared.goal.Goal.{Goal}
use Rattle.pl_told.specs.Index.{FindsGoals}
use Rattle.pl_told.specs.Paths.{HaveAllPaths}
use Rattle.pl_told.proofs.Indexed.{finds_goal}
use Rattle.pl_told.proofs.Places.{reverse-push}
use Rattle.pl_told.proofs.index.add_goal.Goals as goal

at_ok : {T E P : Type 0} (r : Result T E) → IsOk r → OnOk r P → P
at_ok (Ok x) is h = h
at_ok (Err y) is h = absurd cc

pub returns-clause-found : goal.returns-clause-found
returns-clause-found c =
    let pushed : c.push.new.self.items ≡ c.args.goals.now.items ++ c.into_parts-key.result.1 ∷ [] = search rules in
    let count : c.len.result ≡ length c.args.goals.now.items = c.len.ensures ∙ c.args.goals.now.ok.0 in
    let updates = hash_map_updates_text (string_bytes c.into_parts-key.result.0) c.args.numbers.now c.insert.new.self (Some c.len.result)
    (at_ok c.insert.result (c.insert.ensures.succeeds c.requires.numbers_room) c.insert.ensures.updates) in
    let found : FindsGoals c.insert.new.self (c.args.goals.now.items ++ c.args.made ∷ []) =
    finds_goal c.args.numbers.now c.insert.new.self c.args.goals.now.items c.args.made c.requires.found
    (λ urn. updates urn ∙ (λ i. cond (bytes_eq (c.into_parts-key.ensures.key i) urn) (Some (count i)) (get_by_text c.args.numbers.now urn))) in
    subst (λ (items : List Goal). FindsGoals c.insert.new.self items)
    (sym (pushed ∙ ap (λ (one : Goal). c.args.goals.now.items ++ one ∷ []) c.into_parts-key.ensures.goal)) found

pub returns-clause-paths : goal.returns-clause-paths
returns-clause-paths c =
    let pushed : c.push.new.self.items ≡ c.args.goals.now.items ++ c.into_parts-key.result.1 ∷ [] = search rules in
    let turned : reverse c.push.new.self.items ≡ c.args.made ∷ reverse c.args.goals.now.items =
    ap reverse (pushed ∙ ap (λ (one : Goal). c.args.goals.now.items ++ one ∷ []) c.into_parts-key.ensures.goal)
    ∙ reverse-push c.args.goals.now.items c.args.made in
    subst (λ (goals : List Goal). HaveAllPaths goals) (sym turned)
    (All-cons HasPaths c.args.made (reverse c.args.goals.now.items) c.into_parts-key.ensures.paths c.requires.paths)
