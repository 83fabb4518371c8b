-- An entry is read part by part.
use Rattle.std.proofs.Common.{◌≡◌, ℕ, false, List, [], codes, None, Ok, Err, refl}
use Rattle.serde_json.specs.Data.{Members}
use Rattle.pl_checkpoint_text.specs.ReadEntry.{entry_keys, entry_of, other_members, unread_of}
use Rattle.pl_checkpoint_text.specs.ReadField.{Reading, ◌>>=◌, required, optional, flag_in, nonempty_in, urn_in, text_of, urn_of, reference_of, some_in, values_in, texts_in, urns_in, properties_in}
use Rattle.pl_checkpoint.specs.ReadParts.{entry_by_parts, further_of, last_of, linked_of, named_of, placed_of}

-- three readings in a part of their own
part_of_3 : {A B C P Z : Type 0} (a : Reading A) (b : Reading B) (c : Reading C) (make : A → B → C → P) (rest : P → Reading Z) (flat : A → B → C → Reading Z)
    → ((u : A) (v : B) (w : C) → rest (make u v w) ≡ flat u v w)
    → ((a >>= λ u. (b >>= λ v. (c >>= λ w. Ok (make u v w)))) >>= rest) ≡ (a >>= λ u. (b >>= λ v. (c >>= λ w. flat u v w)))
part_of_3 (Err why) b c make rest flat same = refl
part_of_3 (Ok u) (Err why) c make rest flat same = refl
part_of_3 (Ok u) (Ok v) (Err why) make rest flat same = refl
part_of_3 (Ok u) (Ok v) (Ok w) make rest flat same = same u v w

-- four readings in a part of their own
part_of_4 : {A B C D P Z : Type 0} (a : Reading A) (b : Reading B) (c : Reading C) (d : Reading D) (make : A → B → C → D → P) (rest : P → Reading Z) (flat : A → B → C → D → Reading Z)
    → ((u : A) (v : B) (w : C) (x : D) → rest (make u v w x) ≡ flat u v w x)
    → ((a >>= λ u. (b >>= λ v. (c >>= λ w. (d >>= λ x. Ok (make u v w x))))) >>= rest) ≡ (a >>= λ u. (b >>= λ v. (c >>= λ w. (d >>= λ x. flat u v w x))))
part_of_4 (Err why) b c d make rest flat same = refl
part_of_4 (Ok u) (Err why) c d make rest flat same = refl
part_of_4 (Ok u) (Ok v) (Err why) d make rest flat same = refl
part_of_4 (Ok u) (Ok v) (Ok w) (Err why) make rest flat same = refl
part_of_4 (Ok u) (Ok v) (Ok w) (Ok x) make rest flat same = same u v w x

-- five readings in a part of their own
part_of_5 : {A B C D E P Z : Type 0} (a : Reading A) (b : Reading B) (c : Reading C) (d : Reading D) (e : Reading E) (make : A → B → C → D → E → P) (rest : P → Reading Z) (flat : A → B → C → D → E → Reading Z)
    → ((u : A) (v : B) (w : C) (x : D) (y : E) → rest (make u v w x y) ≡ flat u v w x y)
    → ((a >>= λ u. (b >>= λ v. (c >>= λ w. (d >>= λ x. (e >>= λ y. Ok (make u v w x y)))))) >>= rest) ≡ (a >>= λ u. (b >>= λ v. (c >>= λ w. (d >>= λ x. (e >>= λ y. flat u v w x y)))))
part_of_5 (Err why) b c d e make rest flat same = refl
part_of_5 (Ok u) (Err why) c d e make rest flat same = refl
part_of_5 (Ok u) (Ok v) (Err why) d e make rest flat same = refl
part_of_5 (Ok u) (Ok v) (Ok w) (Err why) e make rest flat same = refl
part_of_5 (Ok u) (Ok v) (Ok w) (Ok x) (Err why) make rest flat same = refl
part_of_5 (Ok u) (Ok v) (Ok w) (Ok x) (Ok y) make rest flat same = same u v w x y

-- the parts one after another are the entry
pub entry_of-parts : (path : List ℕ) (ms : Members) → entry_by_parts path ms ≡ entry_of path ms
unfolding entry_by_parts entry_of named_of placed_of linked_of further_of last_of
entry_of-parts path ms =
    part_of_5 (required urn_in path (codes "urn") ms) (required nonempty_in path (codes "type") ms) (optional false flag_in path (codes "custom") ms) (optional false flag_in path (codes "delete") ms) (optional None (some_in text_of) path (codes "id") ms) _ _ _ (λ urn kind custom doomed id.
    part_of_4 (optional [] values_in path (codes "inputs") ms) (optional [] values_in path (codes "outputs") ms) (optional None (some_in urn_of) path (codes "parent") ms) (optional None (some_in reference_of) path (codes "provider") ms) _ _ _ (λ inputs outputs parent provider.
    part_of_5 (optional [] urns_in path (codes "dependencies") ms) (optional [] properties_in path (codes "propertyDependencies") ms) (optional false flag_in path (codes "protect") ms) (optional false flag_in path (codes "external") ms) (optional [] texts_in path (codes "initErrors") ms) _ _ _ (λ dependencies property_dependencies protect external init_errors.
    part_of_4 (optional [] texts_in path (codes "additionalSecretOutputs") ms) (optional [] urns_in path (codes "aliases") ms) (optional None (some_in text_of) path (codes "importID") ms) (optional false flag_in path (codes "retainOnDelete") ms) _ _ _ (λ additional_secret_outputs aliases import_id retain_on_delete.
    part_of_3 (optional None (some_in urn_of) path (codes "deletedWith") ms) (optional false flag_in path (codes "pendingReplacement") ms) (unread_of path (other_members entry_keys ms)) _ _ _ (λ deleted_with pending_replacement rest.
    refl)))))
