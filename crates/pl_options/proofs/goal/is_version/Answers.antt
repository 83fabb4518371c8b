use Rattle.std.proofs.Common.{◌≡◌, true, sym, rules}
use Rattle.semver.specs.Parse.{memory_error}
use Rattle.pl_options.proofs.Readers.{version_is_read, version_is_refused}
use Rattle.pl_options.proofs.goal.is_version.Goals as goal

pub returns-in-Ok : goal.returns-in-Ok
returns-in-Ok c = sym (version_is_read _ _ c.in-Ok.ensures.ok)

pub returns : goal.returns
returns c =
    let other : c.in-Err-2.field-0 ≡ memory_error → ⊥ = λ memory. let same : c.eq.result ≡ true = search rules in cc (same, c.if-eq.false) in
    sym (version_is_refused _ _ other c.in-Err-2.ensures.err)
