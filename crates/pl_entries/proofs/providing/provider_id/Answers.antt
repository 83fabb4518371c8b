use Rattle.std.proofs.Common.{◌≡◌, ℕ, List, Option, IfOk, ap, sym, ◌∙◌, subst}
use Rattle.std.specs.Option.{option_copied}
use Rattle.pl_columns.specs.Read.{known_by}
use Rattle.pl_model.specs.Claims.{kept_provider_id}
use Rattle.pl_model.specs.Known.{claim_row, provider_id}
use Rattle.pl_state.specs.declared.entry.Entry.{Entry}
use Rattle.pl_entries.proofs.Deciding.{fresh_read}
use Rattle.pl_entries.proofs.providing.provider_id.Goals as goal

pub returns : goal.returns
returns c =
    let own : kept_provider_id (option_copied c.claim_row-claim.result) c.fresh.result ≡ provider_id (known_by c.args.columns.now) c.args.goal =
    ap (λ (row : Option Entry). kept_provider_id row c.fresh.result) c.claim_row-claim.ensures
    ∙ ap (λ (fresh : Option ℕ). kept_provider_id (claim_row (known_by c.args.columns.now) c.args.goal) fresh)
    (c.fresh.ensures.recorded ∙ sym (fresh_read c.args.columns.now c.args.goal)) in
    subst (λ (id : Option (List ℕ)). IfOk c.kept_provider_id.result (λ made. made ≡ id)) own c.kept_provider_id.ensures
