use Rattle.std.proofs.Common.{◌∙◌, sym, ap}
use Rattle.pl_sound.proofs.Index.{deleter_first, dependency_first, IfOk_along, lacking_in, own_first, parent_first, property_first, provider_first}
use Rattle.pl_sound.proofs.seen.Seen.missing_in.Goals as goal

pub returns-in-Some : goal.returns-in-Some
returns-in-Some c = own_first c.args.self.now c.args.row.now c.in-Some.missing (sym c.in-Some.is ∙ c.in_ok-missing.ensures)

pub returns-in-Some-2 : goal.returns-in-Some-2
returns-in-Some-2 c =
    parent_first c.args.self.now c.args.row.now c.in-Some-2.missing (sym c.in_default.is ∙ c.in_ok-missing.ensures)
    (sym c.in-Some-2.is ∙ c.in_ok-missing-2.ensures)

pub returns-in-Some-3 : goal.returns-in-Some-3
returns-in-Some-3 c =
    provider_first c.args.self.now c.args.row.now c.in-Some-3.missing (sym c.in_default.is ∙ c.in_ok-missing.ensures)
    (sym c.in_default-2.is ∙ c.in_ok-missing-2.ensures)
    (sym c.in-Some-3.is ∙ c.in_ok-missing-3.ensures)

pub returns-in-Some-4 : goal.returns-in-Some-4
returns-in-Some-4 c =
    dependency_first c.args.self.now c.args.row.now c.in-Some-4.missing (sym c.in_default.is ∙ c.in_ok-missing.ensures)
    (sym c.in_default-2.is ∙ c.in_ok-missing-2.ensures)
    (sym c.in_default-3.is ∙ c.in_ok-missing-3.ensures)
    (sym c.in-Some-4.is ∙ c.in_ok-missing-4.ensures ∙ ap (lacking_in c.args.self.now) c.as_slice.ensures)

pub returns-in-Some-5 : goal.returns-in-Some-5
returns-in-Some-5 c =
    property_first c.args.self.now c.args.row.now c.in-Some-5.missing (sym c.in_default.is ∙ c.in_ok-missing.ensures)
    (sym c.in_default-2.is ∙ c.in_ok-missing-2.ensures)
    (sym c.in_default-3.is ∙ c.in_ok-missing-3.ensures)
    (sym c.in_default-4.is ∙ c.in_ok-missing-4.ensures ∙ ap (lacking_in c.args.self.now) c.as_slice.ensures)
    (sym c.in-Some-5.is ∙ c.in_ok-missing-5.ensures)

pub returns : goal.returns
returns c =
    IfOk_along c.deleter_missing.result _ _
    (λ missing deleter. deleter_first c.args.self.now c.args.row.now missing (sym c.in_default.is ∙ c.in_ok-missing.ensures)
    (sym c.in_default-2.is ∙ c.in_ok-missing-2.ensures)
    (sym c.in_default-3.is ∙ c.in_ok-missing-3.ensures)
    (sym c.in_default-4.is ∙ c.in_ok-missing-4.ensures ∙ ap (lacking_in c.args.self.now) c.as_slice.ensures)
    (sym c.in_default-5.is ∙ c.in_ok-missing-5.ensures) deleter)
    c.deleter_missing.ensures
