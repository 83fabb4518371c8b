-- What the program prints.
use Rattle.std.specs.Prelude.{ℕ, List, ◌++◌, codes}
use Rattle.std.specs.Fmt.{decimal}
use Rattle.pl_desk_speed.specs.declared.report.Report.{Report}
use Rattle.pl_desk_speed.specs.Kinds.{kind_name}

-- such as `lock 4 1000: 4000`
abbrev pub report_text : Report → List ℕ
report_text r = kind_name r.asked.kind ++ codes " " ++ decimal r.asked.threads ++ codes " " ++ decimal r.asked.turns ++ codes ": " ++ decimal r.total
