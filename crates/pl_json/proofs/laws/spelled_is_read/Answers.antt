use Rattle.pl_json.proofs.SpelledIsRead.{spelled_is_read, text_is_read, fields_are_read, fields_text_is_read}
use Rattle.pl_json.proofs.laws.spelled_is_read.Goals as goal

pub returns-clause-spelled_is_read : goal.returns-clause-spelled_is_read
returns-clause-spelled_is_read c = spelled_is_read

pub returns-clause-text_is_read : goal.returns-clause-text_is_read
returns-clause-text_is_read c = text_is_read

pub returns-clause-fields_are_read : goal.returns-clause-fields_are_read
returns-clause-fields_are_read c = fields_are_read

pub returns-clause-fields_text_is_read : goal.returns-clause-fields_text_is_read
returns-clause-fields_text_is_read c = fields_text_is_read
