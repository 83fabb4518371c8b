-- How far the bytes of one frame reach.
use Rattle.std.proofs.Common.{◌≡◌, ℕ, ◌+◌, ◌<◌, ◌≤◌, List, ◌++◌, length, take, drop, sym, ◌∙◌, ap, inl, inr, subst, arith, length-append, length-drop}
use Rattle.std.proofs.lemmas.List.{take-append-drop, take-append-le}
use Rattle.std.proofs.lemmas.Nat.{from_be_bytes-to_be_bytes_4}
use Rattle.std.specs.Int.{w32, from_be_bytes}
use Rattle.pl_world.specs.Frames.{IsPartOfFrame, frame_of, length_bytes}
use Rattle.pl_world.proofs.Reading.{IsPartOfFrame-short_body}
use Rattle.pl_toy_pipe.specs.Piped.{Fits, IsBegun, IsWhole, length_in}

-- after a length that may stand, fewer bytes than it says are a part of a frame
pub part_reached : (bytes header body : List ℕ) (n : ℕ) → header ≡ take 4 bytes → body ≡ drop 4 bytes → length_bytes n ≡ header
    → 1 ≤ n → n ≤ 4194304 → length body < n → IsPartOfFrame bytes
part_reached bytes header body n front behind spelled some fits short =
    let whole : header ++ body ≡ bytes = ap (λ xs. xs ++ body) front ∙ ap (λ xs. take 4 bytes ++ xs) behind ∙ take-append-drop 4 bytes in
    subst (λ (xs : List ℕ). IsPartOfFrame xs) whole (IsPartOfFrame-short_body n header body spelled some fits short)

-- of bytes that fit no more stand behind the length than it says
fits_body : (bytes : List ℕ) (n : ℕ) → Fits bytes → n ≡ length_in bytes → 1 ≤ n → n ≤ length (drop 4 bytes) → length (drop 4 bytes) ≡ n
fits_body bytes n (inl small) is some long = absurd (omega (arith, length-drop 4 bytes))
fits_body bytes n (inr (_, _, within)) is some long = omega (arith, length-drop 4 bytes)

-- after such a length as many bytes are a frame
pub whole_reached : (bytes header body : List ℕ) (n : ℕ) → header ≡ take 4 bytes → body ≡ drop 4 bytes → length_bytes n ≡ header
    → n ≡ length_in bytes → 1 ≤ n → n ≤ 4194304 → n ≤ length body → Fits bytes → IsWhole bytes
whole_reached bytes header body n front behind spelled is some small long fits =
    let same : length (drop 4 bytes) ≡ n = fits_body bytes n fits is some (omega (arith, ap (λ xs. length xs) behind)) in
    let frame : frame_of (drop 4 bytes) ≡ bytes =
    ap (λ k. length_bytes k ++ drop 4 bytes) same ∙ ap (λ xs. xs ++ drop 4 bytes) (spelled ∙ front) ∙ take-append-drop 4 bytes
    in
    ((omega arith, omega arith), sym frame)

-- of a part of a frame more is missing
pub part_begun : (bytes : List ℕ) → IsPartOfFrame bytes → IsBegun bytes
part_begun bytes (inl short) long = absurd (omega arith)
part_begun bytes (inr (body, rest, (some, fits), more, frame)) long =
    let front : take 4 bytes ≡ length_bytes (length body) = sym (take-append-le 4 bytes rest long) ∙ ap (λ xs. take 4 xs) frame in
    let said : length_in bytes ≡ length body = ap (λ xs. from_be_bytes w32 xs) front ∙ from_be_bytes-to_be_bytes_4 (length body) (omega arith) in
    let all : length bytes + length rest ≡ 4 + length body =
    sym (length-append bytes rest) ∙ ap (λ xs. length xs) frame ∙ length-append (length_bytes (length body)) body
    in
    (omega arith, omega arith, omega arith)
