-- Code with the offsets of texts, as a layout makes it: code with 0 for each text, in which the offsets are put where texts are used.
use Rattle.std.proofs.Common.{◌≡◌, ◌<◌, ◌≤◌, ℕ, ◌+◌, ◌-◌, ◌/◌, ◌%◌, ◌^◌, List, [], ◌∷◌, ◌++◌, length, take, map, slice_set, append-nil, length-append, refl, sym, ap, ◌∙◌, subst, arith}
use Rattle.std.specs.Prelude.{flat_map}
use Rattle.std.proofs.lemmas.Grind.{flat_map-append}
use Rattle.std.proofs.lemmas.List.{map-append, set-append_left, set-append_right, take-append-le, take_all, length-set}
use Rattle.p8_tree.specs.declared.places.Place.{Place}
use Rattle.p8_bytecode.specs.declared.op.Op.{Op}
use Rattle.p8_bytecode.specs.Spelling.{spelled}
use Rattle.p8_bytecode.specs.Table.{rows}
use Rattle.p8_image.specs.declared.parts.TextUse.{TextUse}
use Rattle.p8_image.specs.Layout.{linked}
use Rattle.p8_opt.proofs.Linking.{Twin, none, same, named, text_op}

-- an offset is put in two bytes
abbrev put : List ℕ → (at n : ℕ) → List ℕ
put code at n = slice_set (slice_set code at (128 + n / 256 % 128)) (at + 1) (n % 256)

put-length : (code : List ℕ) (at n : ℕ) → length (put code at n) ≡ length code
put-length code at n = length-set (slice_set code at (128 + n / 256 % 128)) (at + 1) (n % 256) ∙ length-set code at (128 + n / 256 % 128)

put-behind : (code more : List ℕ) (at n : ℕ) → at + 1 < length code → put (code ++ more) at n ≡ put code at n ++ more
put-behind code more at n inside =
    let first = set-append_left code more at (128 + n / 256 % 128) (omega (arith, inside)) in
    let size = length-set code at (128 + n / 256 % 128) in
    ap (λ xs. slice_set xs (at + 1) (n % 256)) first
    ∙ set-append_left (slice_set code at (128 + n / 256 % 128)) more (at + 1) (n % 256) (omega (arith, inside, size))

put-text : (code : List ℕ) (n : ℕ) → put (code ++ 0x87 ∷ 128 ∷ 0 ∷ []) (length code + 1) n ≡ code ++ 0x87 ∷ (128 + n / 256 % 128) ∷ (n % 256) ∷ []
put-text code n =
    let high = 128 + n / 256 % 128 in
    let one : length code + 1 - length code ≡ 1 = omega arith in
    let two : length code + 1 + 1 - length code ≡ 2 = omega arith in
    let first : slice_set (code ++ 0x87 ∷ 128 ∷ 0 ∷ []) (length code + 1) high ≡ code ++ 0x87 ∷ high ∷ 0 ∷ [] =
    set-append_right code (0x87 ∷ 128 ∷ 0 ∷ []) (length code) (length code + 1) high refl (omega arith)
    ∙ ap (λ i. code ++ slice_set (0x87 ∷ 128 ∷ 0 ∷ []) i high) one in
    ap (λ xs. slice_set xs (length code + 1 + 1) (n % 256)) first
    ∙ set-append_right code (0x87 ∷ high ∷ 0 ∷ []) (length code) (length code + 1 + 1) (n % 256) refl (omega arith)
    ∙ ap (λ i. code ++ slice_set (0x87 ∷ high ∷ 0 ∷ []) i (n % 256)) two

-- ---- uses one after the other

module _ (f : ℕ → ℕ) where
  linked-push : (us : List TextUse) (u : TextUse) (code : List ℕ) → linked f (us ++ u ∷ []) code ≡ put (linked f us code) u.at (f u.text)
  linked-push [] u code = refl
  linked-push (x ∷ us) u code = linked-push us u (put code x.at (f x.text))

  linked-length : (us : List TextUse) (code : List ℕ) → length (linked f us code) ≡ length code
  linked-length [] code = refl
  linked-length (u ∷ us) code = linked-length us (put code u.at (f u.text)) ∙ put-length code u.at (f u.text)

  -- uses whose two bytes stand below a place
  abbrev AreInside : ℕ → List TextUse → Type 0
  AreInside n [] = Unit {0}
  AreInside n (u ∷ us) = (u.at + 1 < n) × AreInside n us

  linked-behind : (us : List TextUse) (code more : List ℕ) → AreInside (length code) us → linked f us (code ++ more) ≡ linked f us code ++ more
  linked-behind [] code more inside = refl
  linked-behind (u ∷ us) code more inside =
      ap (λ xs. linked f us xs) (put-behind code more u.at (f u.text) inside.0)
      ∙ linked-behind us (put code u.at (f u.text)) more (subst (λ n. AreInside n us) (sym (put-length code u.at (f u.text))) inside.1)

  further : (us : List TextUse) (m n : ℕ) → m ≤ n → AreInside m us → AreInside n us
  further [] m n less inside = tt
  further (u ∷ us) m n less inside = (omega (arith, less, inside.0), further us m n less inside.1)

  pushed : (us : List TextUse) (u : TextUse) (n : ℕ) → AreInside n us → u.at + 1 < n → AreInside n (us ++ u ∷ [])
  pushed [] u n inside last = (last, tt)
  pushed (x ∷ us) u n inside last = (inside.0, pushed us u n inside.1 last)

-- ---- uses in code

abbrev bytes : List Op → List ℕ
bytes xs = flat_map spelled xs

bytes-push : (xs : List Op) (op : Op) → bytes (xs ++ op ∷ []) ≡ bytes xs ++ spelled op
bytes-push xs op = flat_map-append spelled xs (op ∷ []) ∙ ap (λ ys. bytes xs ++ ys) (append-nil (spelled op))

-- a use by the bytecode's number, and by where its two bytes stand
abbrev pub place_in : List Op → ℕ × Place → ℕ × Place
place_in xs u = (length (flat_map spelled (take u.0 xs)) + 1, u.1)

module _ (t : Place → ℕ) (f : ℕ → ℕ) (number : Place → ℕ) (is_text : (p : Place) → f (number p) ≡ t p) where
  abbrev pub used : ℕ × Place → TextUse
  used u = record { at = u.0; text = number u.1 }

  abbrev uses : List Op → List (ℕ × Place) → List TextUse
  uses xs us = map used (map (place_in xs) us)

  abbrev AreBelow : ℕ → List (ℕ × Place) → Type 0
  AreBelow n [] = Unit {0}
  AreBelow n (u ∷ us) = (u.0 < n) × AreBelow n us

  lower : (us : List (ℕ × Place)) (n : ℕ) → AreBelow n us → AreBelow (n + 1) us
  lower [] n below = tt
  lower (u ∷ us) n below = (omega (arith, below.0), lower us n below.1)

  below-push : (us : List (ℕ × Place)) (u : ℕ × Place) (n : ℕ) → AreBelow n us → u.0 < n → AreBelow n (us ++ u ∷ [])
  below-push [] u n below last = (last, tt)
  below-push (x ∷ us) u n below last = (below.0, below-push us u n below.1 last)

  uses-more : (xs : List Op) (op : Op) (us : List (ℕ × Place)) → AreBelow (length xs) us → uses (xs ++ op ∷ []) us ≡ uses xs us
  uses-more xs op [] below = refl
  uses-more xs op (u ∷ us) below =
      let cut : take u.0 (xs ++ op ∷ []) ≡ take u.0 xs = take-append-le u.0 xs (op ∷ []) (omega (arith, below.0)) in
      ap (λ ys. used (length (flat_map spelled ys) + 1, u.1) ∷ uses (xs ++ op ∷ []) us) cut
      ∙ ap (λ rest. used (place_in xs u) ∷ rest) (uses-more xs op us below.1)

  last-place : (xs : List Op) (op : Op) (p : Place) → place_in (xs ++ op ∷ []) (length xs, p) ≡ (length (bytes xs) + 1, p)
  last-place xs op p =
      let cut : take (length xs) (xs ++ op ∷ []) ≡ xs = take-append-le (length xs) xs (op ∷ []) (omega arith) ∙ take_all (length xs) xs (omega arith) in
      ap (λ ys. (length (flat_map spelled ys) + 1, p)) cut

  record IsLinked (xs : List Op) (us : List (ℕ × Place)) (ys : List Op) : Type 0 where
    below : AreBelow (length xs) us
    inside : AreInside f (length (bytes xs)) (uses xs us)
    is : linked f (uses xs us) (bytes xs) ≡ bytes ys

  text-zero : spelled (text_op 0) ≡ 0x87 ∷ 128 ∷ 0 ∷ []
  unfolding rows
  text-zero = refl

  text-bytes : (n : ℕ) → spelled (text_op (n % 2 ^ 15)) ≡ 0x87 ∷ (128 + n / 256 % 128) ∷ (n % 256) ∷ []
  unfolding rows
  text-bytes n =
      let high : n % 2 ^ 15 / 256 ≡ n / 256 % 128 = omega arith in
      let low : n % 2 ^ 15 % 256 ≡ n % 256 = omega arith in
      ap (λ h. 0x87 ∷ (128 + h) ∷ (n % 2 ^ 15 % 256) ∷ []) high ∙ ap (λ l. 0x87 ∷ (128 + n / 256 % 128) ∷ l ∷ []) low

  same-linked : {xs ys : List Op} {us : List (ℕ × Place)} (op : Op) → IsLinked xs us ys → IsLinked (xs ++ op ∷ []) us (ys ++ op ∷ [])
  same-linked {xs} {ys} {us} op h =
      let stays = uses-more xs op us h.below in
      let size : length (bytes (xs ++ op ∷ [])) ≡ length (bytes xs) + length (spelled op) = ap length (bytes-push xs op) ∙ length-append (bytes xs) (spelled op) in
      let count : length (xs ++ op ∷ []) ≡ length xs + 1 = length-append xs (op ∷ []) in
      record {
        below = subst (λ n. AreBelow n us) (sym count) (lower us (length xs) h.below);
        inside = subst (λ vs. AreInside f (length (bytes (xs ++ op ∷ []))) vs) (sym stays) (further f (uses xs us) (length (bytes xs)) (length (bytes (xs ++ op ∷ []))) (omega (arith, size)) h.inside);
        is =
            ap (λ vs. linked f vs (bytes (xs ++ op ∷ []))) stays ∙ ap (λ code. linked f (uses xs us) code) (bytes-push xs op)
            ∙ linked-behind f (uses xs us) (bytes xs) (spelled op) h.inside ∙ ap (λ code. code ++ spelled op) h.is ∙ sym (bytes-push ys op);
      }

  named-linked : {xs ys : List Op} {us : List (ℕ × Place)} (p : Place) → IsLinked xs us ys → IsLinked (xs ++ text_op 0 ∷ []) (us ++ (length xs, p) ∷ []) (ys ++ text_op (t p % 2 ^ 15) ∷ [])
  named-linked {xs} {ys} {us} p h =
      let op : Op = text_op 0 in
      let zero_bytes : List ℕ = 0x87 ∷ 128 ∷ 0 ∷ [] in
      let next : TextUse = record { at = length (bytes xs) + 1; text = number p } in
      let pushed-uses : uses (xs ++ op ∷ []) (us ++ (length xs, p) ∷ []) ≡ uses xs us ++ next ∷ [] =
      ap (λ vs. map used vs) (map-append (place_in (xs ++ op ∷ [])) us ((length xs, p) ∷ []))
      ∙ map-append used (map (place_in (xs ++ op ∷ [])) us) (place_in (xs ++ op ∷ []) (length xs, p) ∷ [])
      ∙ ap (λ vs. vs ++ used (place_in (xs ++ op ∷ []) (length xs, p)) ∷ []) (uses-more xs op us h.below)
      ∙ ap (λ u. uses xs us ++ used u ∷ []) (last-place xs op p) in
      let code-is : bytes (xs ++ op ∷ []) ≡ bytes xs ++ zero_bytes = bytes-push xs op ∙ ap (λ b. bytes xs ++ b) text-zero in
      let size : length (bytes (xs ++ op ∷ [])) ≡ length (bytes xs) + 3 = ap length code-is ∙ length-append (bytes xs) zero_bytes in
      let count : length (xs ++ op ∷ []) ≡ length xs + 1 = length-append xs (op ∷ []) in
      let long : length (bytes ys) ≡ length (bytes xs) = sym (ap length h.is) ∙ linked-length f (uses xs us) (bytes xs) in
      record {
        below = subst (λ n. AreBelow n (us ++ (length xs, p) ∷ [])) (sym count) (below-push us (length xs, p) (length xs + 1) (lower us (length xs) h.below) (omega arith));
        inside = subst (λ vs. AreInside f (length (bytes (xs ++ op ∷ []))) vs) (sym pushed-uses)
            (pushed f (uses xs us) next (length (bytes (xs ++ op ∷ []))) (further f (uses xs us) (length (bytes xs)) (length (bytes (xs ++ op ∷ []))) (omega (arith, size)) h.inside) (omega (arith, size)));
        is =
            ap (λ vs. linked f vs (bytes (xs ++ op ∷ []))) pushed-uses ∙ ap (λ code. linked f (uses xs us ++ next ∷ []) code) code-is
            ∙ linked-push f (uses xs us) next (bytes xs ++ zero_bytes)
            ∙ ap (λ code. put code (length (bytes xs) + 1) (f (number p))) (linked-behind f (uses xs us) (bytes xs) zero_bytes h.inside ∙ ap (λ code. code ++ zero_bytes) h.is)
            ∙ ap (λ n. put (bytes ys ++ zero_bytes) (n + 1) (f (number p))) (sym long)
            ∙ put-text (bytes ys) (f (number p))
            ∙ ap (λ n. bytes ys ++ 0x87 ∷ (128 + n / 256 % 128) ∷ (n % 256) ∷ []) (is_text p)
            ∙ sym (bytes-push ys (text_op (t p % 2 ^ 15)) ∙ ap (λ b. bytes ys ++ b) (text-bytes (t p)));
      }

  all-linked : {xs ys : List Op} {us : List (ℕ × Place)} → Twin t xs us ys → IsLinked xs us ys
  all-linked none = record { below = tt; inside = tt; is = refl }
  all-linked (same op d) = same-linked op (all-linked d)
  all-linked (named p d) = named-linked p (all-linked d)

  -- the bytes with the offsets put in
  pub linked-is : {xs ys : List Op} {us : List (ℕ × Place)} → Twin t xs us ys → linked f (map used (map (place_in xs) us)) (flat_map spelled xs) ≡ flat_map spelled ys
  linked-is d = (all-linked d).is
