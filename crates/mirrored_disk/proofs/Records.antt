-- A record has its head, its number and its image where they are read.
use Rattle.std.proofs.Common.{◌≡◌, ◌∙◌, ◌+◌, ◌<◌, ◌^◌, ℕ, List, [], ◌∷◌, ◌++◌, length, take, drop, ap, refl, sym, subst, arith}
use Rattle.std.proofs.lemmas.List.{take-append-le, drop-append-le, length-append}
use Rattle.std.proofs.lemmas.Nat.{from_le_bytes-to_le_bytes_8}
use Rattle.std.specs.Int.{w64, from_le_bytes, to_le_bytes}
use Rattle.sha2.specs.Sha256.{sha256}
use Rattle.mirrored_disk.specs.Record.{HasRecord, body_of, image_in, number_in, record_of}

front : (n : ℕ) (xs ys : List ℕ) → length xs ≡ n → take n (xs ++ ys) ≡ xs
front n xs ys size = subst (λ k. take k (xs ++ ys) ≡ xs) size (seam xs) where
  seam : (zs : List ℕ) → take (length zs) (zs ++ ys) ≡ zs
  seam [] = refl
  seam (z ∷ zs) = ap (λ rest. z ∷ rest) (seam zs)

back : (n : ℕ) (xs ys : List ℕ) → length xs ≡ n → drop n (xs ++ ys) ≡ ys
back n xs ys size = subst (λ k. drop k (xs ++ ys) ≡ ys) size (seam xs) where
  seam : (zs : List ℕ) → drop (length zs) (zs ++ ys) ≡ ys
  seam [] = refl
  seam (z ∷ zs) = seam zs

module _ (head image : List ℕ) (number : ℕ) (head_size : length head ≡ 16) (image_size : length image ≡ 8844) where
  abbrev digits : List ℕ
  digits = to_le_bytes w64 number

  abbrev body : List ℕ
  body = head ++ digits ++ image

  digits_size : length digits ≡ 8
  digits_size = refl

  front_size : length (head ++ digits) ≡ 24
  front_size = length-append head digits ∙ ap (λ n. n + length digits) head_size

  body_size : length body ≡ 8868
  body_size = length-append (head ++ digits) image ∙ ap (λ n. n + length image) front_size ∙ ap (λ n. 24 + n) image_size

  pub is_record : HasRecord head (record_of head number image)
  unfolding record_of body_of
  is_record = record {
    named = take-append-le 16 body (sha256 body) (omega (arith, body_size)) ∙ take-append-le 16 (head ++ digits) image (omega (arith, front_size)) ∙ front 16 head digits head_size;
    checked = back 8868 body (sha256 body) body_size ∙ ap sha256 (sym (front 8868 body (sha256 body) body_size));
  }

  pub has_image : image_in (record_of head number image) ≡ image
  unfolding record_of body_of image_in
  has_image = ap (take 8844) (drop-append-le 24 body (sha256 body) (omega (arith, body_size)) ∙ ap (λ xs. xs ++ sha256 body) (back 24 (head ++ digits) image front_size)) ∙ front 8844 image (sha256 body) image_size

  pub has_number : number < 2 ^ 64 → number_in (record_of head number image) ≡ number
  unfolding record_of body_of number_in
  has_number small = ap (λ xs. from_le_bytes w64 (take 8 xs)) (drop-append-le 16 body (sha256 body) (omega (arith, body_size)) ∙ ap (λ xs. xs ++ sha256 body) (drop-append-le 16 (head ++ digits) image (omega (arith, front_size)) ∙ ap (λ xs. xs ++ image) (back 16 head digits head_size))) ∙ ap (from_le_bytes w64) (take-append-le 8 (digits ++ image) (sha256 body) (omega arith) ∙ front 8 digits image digits_size) ∙ from_le_bytes-to_le_bytes_8 number small
