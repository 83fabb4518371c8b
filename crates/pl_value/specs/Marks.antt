-- The texts that stand for what no JSON spells by itself.
use Rattle.std.specs.Prelude.{ℕ, List, codes}

-- the text of the unknown
unfoldable pub unknown_text : List ℕ
unknown_text = codes "04da6b54-80e4-46f7-96ec-b56ff0331ba9"

-- the key under which a secret's object is marked
unfoldable pub secret_key : List ℕ
secret_key = codes "4dabf18193072939515e22adb298388d"

-- the text that stands under that key in a secret's object
unfoldable pub secret_mark : List ℕ
secret_mark = codes "1b47061264138c4ac30d75fd1eb44270"

-- what is shown in a secret's place
unfoldable pub shown_secret : List ℕ
shown_secret = codes "[secret]"
