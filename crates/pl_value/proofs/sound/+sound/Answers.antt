use Rattle.std.proofs.Common.{rules}
use Rattle.pl_value.proofs.Levels.{is_value-Null, is_value-Flag, is_value-Whole, is_value-Text, is_value-List, is_value-Object, is_value-Secret, is_value-Unknown}
use Rattle.pl_value.proofs.sound.+sound.Goals as goal

pub is_value-returns-in-Text : goal.is_value-returns-in-Text
is_value-returns-in-Text t c = search (rules, is_value-Text)

pub is_value-returns-in-List : goal.is_value-returns-in-List
is_value-returns-in-List t c = cc (is_value-List c.in-List.values)

pub is_value-returns-in-Object : goal.is_value-returns-in-Object
is_value-returns-in-Object t c = cc (is_value-Object c.in-Object.fields)

pub is_value-returns-in-Secret : goal.is_value-returns-in-Secret
is_value-returns-in-Secret t c = cc (is_value-Secret c.in-Secret.inner)

pub is_value-returns-in-Null : goal.is_value-returns-in-Null
is_value-returns-in-Null t c = cc is_value-Null

pub is_value-returns-in-Null-2 : goal.is_value-returns-in-Null-2
is_value-returns-in-Null-2 t c = search (rules, is_value-Flag)

pub is_value-returns-in-Null-3 : goal.is_value-returns-in-Null-3
is_value-returns-in-Null-3 t c = search (rules, is_value-Whole)

pub is_value-returns-in-Null-4 : goal.is_value-returns-in-Null-4
is_value-returns-in-Null-4 t c = cc is_value-Unknown
