use Rattle.std.proofs.Common.{ℕ, List, Option, Some, ap, sym, ◌∙◌}
use Rattle.pl_components.specs.Entries.{has_entry}
use Rattle.pl_components.specs.Due.{parent_stands}
use Rattle.pl_engine.proofs.Finding.{found_urn, found_stands, missed}
use Rattle.pl_engine.proofs.judge.parent_of.Goals as goal

pub returns-in-Some-find_urn-clause-named : goal.returns-in-Some-find_urn-clause-named
returns-in-Some-find_urn-clause-named c =
    let same = found_urn c.args.entries.now c.as_str.result.now c.find_urn.result c.in-Some-find_urn.entry c.find_urn.ensures c.in-Some-find_urn.is in
    ap (λ (urn : List ℕ). Some urn) (same ∙ c.as_str.ensures) ∙ sym c.in-Some.is

pub returns-in-Some-find_urn-clause-stands : goal.returns-in-Some-find_urn-clause-stands
returns-in-Some-find_urn-clause-stands c =
    let stands = found_stands c.args.entries.now c.as_str.result.now c.find_urn.result c.in-Some-find_urn.entry c.find_urn.ensures c.in-Some-find_urn.is in
    ap (λ (p : Option (List ℕ)). parent_stands c.args.entries.now p) c.in-Some.is
    ∙ ap (λ (urn : List ℕ). has_entry c.args.entries.now urn) (sym c.as_str.ensures) ∙ stands

pub returns-in-None-clause-refused : goal.returns-in-None-clause-refused
returns-in-None-clause-refused c =
    let gone = missed c.args.entries.now c.as_str.result.now c.find_urn.result c.find_urn.ensures c.in-None.is in
    ap (λ (p : Option (List ℕ)). parent_stands c.args.entries.now p) c.in-Some.is
    ∙ ap (λ (urn : List ℕ). has_entry c.args.entries.now urn) (sym c.as_str.ensures) ∙ gone
