use Rattle.pl_json.proofs.ValueTells.{spelling_tells_value, text_tells_value, text_tells_fields}
use Rattle.pl_json.proofs.laws.spelling_tells_value.Goals as goal

pub returns-clause-spelling : goal.returns-clause-spelling
returns-clause-spelling c = spelling_tells_value

pub returns-clause-text : goal.returns-clause-text
returns-clause-text c = text_tells_value

pub returns-clause-fields : goal.returns-clause-fields
returns-clause-fields c = text_tells_fields
