-- What an index of rows says of a reference.
use Rattle.std.specs.Prelude.{Bool, false}
use Rattle.pl_state.specs.declared.fault.Missing.{Missing}
use Rattle.pl_state.specs.declared.fault.Missing.TheVariants.{Twice, Parent, Provider, Dependency, DeletedWith}
use Rattle.pl_sound.specs.declared.seen.Seen.{Seen}
use Rattle.pl_sound.specs.Seen.{has_pair, has_text}

-- whether a row in the index meets a reference; a URN of one's own is none
abbrev pub is_given : Seen → Missing → Bool
is_given seen (Twice urn) = false
is_given seen (Parent urn) = has_text seen.urns urn
is_given seen (Provider reference) = has_pair seen.things reference.urn reference.id
is_given seen (Dependency urn) = has_text seen.urns urn
is_given seen (DeletedWith urn) = has_text seen.urns urn
