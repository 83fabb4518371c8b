-- The grammar of URNs: `urn:pulumi:<stack>::<project>::<qualified type>::<name>`, cut at the first three
-- `::` after the prefix.
use Rattle.std.specs.Prelude.{◌≡◌, ◌<◌, ◌≢◌, ◌==◌, ◌||◌, ℕ, Bool, if◌then◌else◌, All, codes, drop, length, List, [], ◌∷◌, ◌++◌, Option, None, Some}
use Rattle.std.specs.List.{starts_with, ends_with, list_any, slice_split, after_last, before_first}
use Rattle.std.specs.Str.{bytes_eq}
use Rattle.pl_urn.specs.Cut.{colon, cut, has_cut, before_cut, after_cut}
use Rattle.pl_urn.specs.declared.fault.UrnFault.{UrnFault}
use Rattle.pl_urn.specs.declared.fault.UrnFault.TheVariants.{NoPrefix, TooFewParts, EmptyPart, BadType, OutOfMemory}

-- whether a text is empty
abbrev pub is_empty : List ℕ → Bool
is_empty text = length text == 0

-- what stands before a URN's stack
abbrev pub urn_prefix : List ℕ
urn_prefix = codes "urn:pulumi:"

-- the type of a stack's own row
abbrev pub stack_type : List ℕ
stack_type = codes "pulumi:pulumi:Stack"

-- what stands before the package in a provider's type
abbrev pub provider_prefix : List ℕ
provider_prefix = codes "pulumi:providers:"

-- whether a byte is `$`, which stands between the pieces of a qualified type
abbrev pub is_dollar : ℕ → Bool
is_dollar b = b == 36

abbrev pub is_colon : ℕ → Bool
is_colon b = b == colon

-- what follows the prefix, or nothing where a text does not begin with it
unfoldable pub parts_of : List ℕ → List ℕ
parts_of text = if starts_with (λ a b. a == b) text urn_prefix then drop (length urn_prefix) text else []

abbrev pub stack_of : List ℕ → List ℕ
stack_of text = before_cut (parts_of text)

abbrev pub project_of : List ℕ → List ℕ
project_of text = before_cut (after_cut (parts_of text))

abbrev pub qualified_type_of : List ℕ → List ℕ
qualified_type_of text = before_cut (after_cut (after_cut (parts_of text)))

abbrev pub name_of : List ℕ → List ℕ
name_of text = after_cut (after_cut (after_cut (parts_of text)))

-- the qualified type's last piece
abbrev pub own_type_of : List ℕ → List ℕ
own_type_of text = after_last is_dollar (qualified_type_of text)

-- whether a type is that of a provider
abbrev pub is_provider_type : List ℕ → Bool
is_provider_type kind = starts_with (λ a b. a == b) kind provider_prefix

-- the package of a type: that of a provider is the one that it provides
abbrev pub type_package : List ℕ → List ℕ
type_package kind =
    if is_provider_type kind
    then drop (length provider_prefix) kind
    else before_first is_colon kind

abbrev pub package_of : List ℕ → List ℕ
package_of text = type_package (own_type_of text)

-- whether a piece of a qualified type is empty
unfoldable pub has_empty_piece : List ℕ → Bool
has_empty_piece kind = list_any is_empty (slice_split is_dollar kind)

-- the first of the four parts that is empty
abbrev pub empty_part : List ℕ → List ℕ → List ℕ → List ℕ → Option UrnFault
empty_part stack project kind name =
    if is_empty stack then Some (EmptyPart 0)
    else (if is_empty project then Some (EmptyPart 1)
    else (if has_empty_piece kind then Some (EmptyPart 2)
    else (if is_empty name then Some (EmptyPart 3)
    else None)))

-- why a text is no URN, if it is none; a third `::` follows only where two others do
unfoldable pub urn_fault : List ℕ → Option UrnFault
urn_fault text =
    if starts_with (λ a b. a == b) text urn_prefix
    then (if has_cut (after_cut (after_cut (parts_of text)))
    then empty_part (stack_of text) (project_of text) (qualified_type_of text) (name_of text)
    else Some TooFewParts)
    else Some NoPrefix

-- the text is a URN
abbrev pub IsUrn : List ℕ → Type 0
IsUrn text = urn_fault text ≡ None

-- the fault that an answer tells of what was given: none where memory was wanting
abbrev pub told_fault : UrnFault → Option UrnFault
told_fault NoPrefix = Some NoPrefix
told_fault TooFewParts = Some TooFewParts
told_fault (EmptyPart n) = Some (EmptyPart n)
told_fault BadType = Some BadType
told_fault OutOfMemory = None

-- the name of a stack or a project, as `child` wants it
pub record IsScope (text : List ℕ) : Type 0 where
  pub nonempty : 0 < length text
  pub without_colon : All (λ b. b ≢ colon) text

-- whether a type may not be a child's own
unfoldable pub is_bad_type : List ℕ → Bool
is_bad_type kind =
    is_empty kind || has_cut kind || list_any is_dollar kind || ends_with (λ a b. a == b) kind (colon ∷ [])

-- why there is no child of this type and name
abbrev pub child_fault : List ℕ → List ℕ → Option UrnFault
child_fault kind name =
    if is_bad_type kind then Some BadType
    else (if is_empty name then Some (EmptyPart 3) else None)

-- what stands above a child, by its parent's qualified type: all of it, and nothing below a stack's own row
abbrev pub type_above : List ℕ → Option (List ℕ)
type_above qualified = if bytes_eq (after_last is_dollar qualified) stack_type then None else Some qualified

-- the own type below another, joined by `$`
abbrev pub type_below : Option (List ℕ) → List ℕ → List ℕ
type_below None kind = kind
type_below (Some above) kind = above ++ 36 ∷ kind

-- a child's qualified type
abbrev pub child_type : Option (List ℕ) → List ℕ → List ℕ
child_type None kind = kind
child_type (Some parent) kind = type_below (type_above (qualified_type_of parent)) kind

-- a URN of these four parts
abbrev pub text_of : List ℕ → List ℕ → List ℕ → List ℕ → List ℕ
text_of stack project kind name =
    urn_prefix ++ (stack ++ (cut ++ (project ++ (cut ++ (kind ++ (cut ++ name))))))

abbrev pub child_text : Option (List ℕ) → List ℕ → List ℕ → List ℕ → List ℕ → List ℕ
child_text parent stack project kind name = text_of stack project (child_type parent kind) name
