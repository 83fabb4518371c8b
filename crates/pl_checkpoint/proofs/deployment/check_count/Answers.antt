use Rattle.std.proofs.Common.{◌≡◌, ◌+◌, true, false, length, nat_lt, refl, sym, ap, ◌∙◌, rules}
use Rattle.serde_json.proofs.Views.{items_len-items_view}
use Rattle.serde_json.specs.View.{items_view}
use Rattle.pl_checkpoint_text.specs.Read.{count_items, count_of, makes_one, within_limit}
use Rattle.pl_state.specs.Formed.{most_resources}
use Rattle.pl_checkpoint.proofs.deployment.check_count.Goals as goal

pub returns-then-count-gt-MOST_RESOURCES : goal.returns-then-count-gt-MOST_RESOURCES
returns-then-count-gt-MOST_RESOURCES c =
    let made = c.making_operations-making.result in
    let known : made ≡ count_items makes_one (items_view c.args.operations.now) = c.making_operations-making.ensures in
    let sum : c.in-Some.count ≡ length c.args.resources.now + made = search rules in
    let total : count_of (items_view c.args.resources.now) (items_view c.args.operations.now) ≡ c.in-Some.count =
    ap (λ k. k + count_items makes_one (items_view c.args.operations.now)) (items_len-items_view c.args.resources.now)
    ∙ ap (λ k. length c.args.resources.now + k) (sym known) ∙ sym sum in
    let above : nat_lt most_resources c.in-Some.count ≡ true = search rules in
    ap within_limit total ∙ rw above refl

pub returns : goal.returns
returns c =
    let made = c.making_operations-making.result in
    let known : made ≡ count_items makes_one (items_view c.args.operations.now) = c.making_operations-making.ensures in
    let sum : c.in-Some.count ≡ length c.args.resources.now + made = search rules in
    let total : count_of (items_view c.args.resources.now) (items_view c.args.operations.now) ≡ c.in-Some.count =
    ap (λ k. k + count_items makes_one (items_view c.args.operations.now)) (items_len-items_view c.args.resources.now)
    ∙ ap (λ k. length c.args.resources.now + k) (sym known) ∙ sym sum in
    let within : nat_lt most_resources c.in-Some.count ≡ false = search rules in
    ap within_limit total ∙ rw within refl
