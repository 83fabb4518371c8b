use Rattle.std.proofs.Common.{◌≡◌, ℕ, ◌≤◌, ◌+◌, ◌^◌, [], length, arith, ap, sym, ◌∙◌}
use Rattle.pl_snap.specs.Lists.{zip_by}
use Rattle.pl_snap.specs.Rows.{first_rows, first_tags, first_waiting, rise_from, tagged_pending, tagged_rows}
use Rattle.std.proofs.lemmas.Grind.{common_steps}
use Rattle.pl_snap.proofs.Kept.{kept-new}
use Rattle.pl_snap.proofs.Rising.{rise-first_tags}
use Rattle.pl_snap.proofs.RowLemmas.{length-first_tags, rows_first, waiting_first}
use Rattle.pl_snap.proofs.snap.Snap.new.Goals as goal

pub new-requires-2-clause-tagged : goal.new-requires-2-clause-tagged
new-requires-2-clause-tagged c =
    ap length c.in-Ok.ensures ∙ length-first_tags 0 c.len-rows.result ∙ c.len-rows.ensures ∙ sym (ap length c.into_vec.ensures)

pub new-requires-2-clause-rising : goal.new-requires-2-clause-rising
new-requires-2-clause-rising c = ap (rise_from 0) c.in-Ok.ensures ∙ rise-first_tags 0 c.len-rows.result

pub new-requires-3 : goal.new-requires-3
new-requires-3 c =
    ap length c.in-Ok-new_tags.ensures ∙ length-first_tags c.len-rows.result c.len-operations.result ∙ c.len-operations.ensures ∙ sym (ap length c.into_vec-2.ensures)

pub returns-clause-made : goal.returns-clause-made
returns-clause-made c =
    let base = c.args.base in
    let rows : c.new-2.result ≡ first_rows base.entries =
    c.new-2.ensures ∙ (λ i. tagged_rows (c.in-Ok.ensures i) (c.into_vec.ensures i))
    ∙ ap (λ (n : ℕ). tagged_rows (first_tags 0 n) base.entries) c.len-rows.ensures ∙ rows_first base.entries in
    let waiting : c.new-3.result ≡ first_waiting (length base.entries) base.pending =
    c.new-3.ensures ∙ (λ i. zip_by tagged_pending (c.in-Ok-new_tags.ensures i) (c.into_vec-2.ensures i))
    ∙ (λ i. zip_by tagged_pending (first_tags (c.len-rows.ensures i) (c.len-operations.ensures i)) base.pending)
    ∙ waiting_first (length base.entries) base.pending in
    let own : c.new-6.result ≡ [] = c.new-6.ensures ∙ ap (λ tags. zip_by tagged_pending tags c.new-4.result.items) c.new-5.ensures.items in
    λ i. record {
      stack = base.stack;
      fresh = c.new.ensures i;
      rows = rows i;
      base_pending = waiting i;
      own_pending = own i;
      rest = base.rest;
      next_stamp = c.len-rows.ensures i + c.len-operations.ensures i;
    }

pub invariant_of-result : goal.invariant_of-result
invariant_of-result c =
    let base = c.args.base in
    let rows : c.new-2.result ≡ first_rows base.entries =
    c.new-2.ensures ∙ (λ i. tagged_rows (c.in-Ok.ensures i) (c.into_vec.ensures i))
    ∙ ap (λ (n : ℕ). tagged_rows (first_tags 0 n) base.entries) c.len-rows.ensures ∙ rows_first base.entries in
    let waiting : c.new-3.result ≡ first_waiting (length base.entries) base.pending =
    c.new-3.ensures ∙ (λ i. zip_by tagged_pending (c.in-Ok-new_tags.ensures i) (c.into_vec-2.ensures i))
    ∙ (λ i. zip_by tagged_pending (first_tags (c.len-rows.ensures i) (c.len-operations.ensures i)) base.pending)
    ∙ waiting_first (length base.entries) base.pending in
    let own : c.new-6.result ≡ [] = c.new-6.ensures ∙ ap (λ tags. zip_by tagged_pending tags c.new-4.result.items) c.new-5.ensures.items in
    let top : c.len-rows.result + c.len-operations.result ≤ 2 ^ 62 = grind (arith, common_steps) in
    let below : length base.entries + length base.pending ≤ 2 ^ 62 = omega (arith, top, c.len-rows.ensures, c.len-operations.ensures) in
    rw (c.new.ensures, rows, waiting, own, c.len-rows.ensures, c.len-operations.ensures) (kept-new base.entries base.pending below)
