-- A writer that tells its bytes, over several calls.
use Rattle.std.proofs.Common.{length, ◌≡◌, ◌∙◌, ap, ℕ, List, ◌++◌, take, drop, Option, Some, None, append_assoc}
use Rattle.std.proofs.lemmas.List.{take-append-drop}
use Rattle.std.proofs.Math.Seq.{take-append_seam}
use Rattle.std.specs.Io.KnownBytes.{Appends, Keeps}

-- a writer took the bytes up to the rest
pub record IsSent (before now : Option (List ℕ)) (bytes rest : List ℕ) : Type 0 where
  pub sent : List ℕ
  pub split : bytes ≡ sent ++ rest
  pub appends : Appends before now sent

appends-both : (a b c : Option (List ℕ)) (xs ys : List ℕ) → Appends a b xs → Appends b c ys → Appends a c (xs ++ ys)
appends-both None b c xs ys p q = tt
appends-both (Some x) None c xs ys p q = absurd p
appends-both (Some x) (Some y) None xs ys p q = absurd q
appends-both (Some x) (Some y) (Some z) xs ys p q = q ∙ ap (λ (t : List ℕ). t ++ ys) p ∙ append_assoc x xs ys

pub sent-more : (a b c : Option (List ℕ)) (bytes rest left : List ℕ) (n : ℕ) → IsSent a b bytes rest → Appends b c (take n rest) → left ≡ drop n rest → IsSent a c bytes left
sent-more a b c bytes rest left n s p e = record {
  sent = s.sent ++ take n rest;
  split = rw (e, append_assoc s.sent (take n rest) (drop n rest), take-append-drop n rest) s.split;
  appends = appends-both a b c s.sent (take n rest) s.appends p;
}

-- some first bytes were sent
abbrev pub SentPrefix : Option (List ℕ) → Option (List ℕ) → List ℕ → Type 0
SentPrefix before now bytes = (n : ℕ) × Appends before now (take n bytes)

pub sent-prefix : (a b : Option (List ℕ)) (bytes rest : List ℕ) → IsSent a b bytes rest → SentPrefix a b bytes
sent-prefix a b bytes rest s = (length s.sent, rw (s.split, take-append_seam s.sent rest) s.appends)

keeps-appends : (a b c : Option (List ℕ)) (bytes : List ℕ) → Appends a b bytes → Keeps b c → Appends a c bytes
keeps-appends None b c bytes p k = tt
keeps-appends (Some x) None c bytes p k = absurd p
keeps-appends (Some x) (Some y) None bytes p k = absurd k
keeps-appends (Some x) (Some y) (Some z) bytes p k = k ∙ p

-- the writer then stayed as it was
pub prefix-kept : (a b c : Option (List ℕ)) (bytes rest : List ℕ) → IsSent a b bytes rest → Keeps b c → SentPrefix a c bytes
prefix-kept a b c bytes rest s k = let p = sent-prefix a b bytes rest s in (p.0, keeps-appends a b c (take p.0 bytes) p.1 k)
