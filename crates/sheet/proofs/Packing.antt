-- Bits that are pushed in eight by eight are the bytes that they make.
use Rattle.std.proofs.Common.{◌≡◌, ℕ, zero, suc, ◌+◌, ◌-◌, ◌*◌, ◌/◌, ◌%◌, ◌^◌, ◌<◌, ◌≤◌, List, [], ◌∷◌, ◌++◌, length, get_or, drop, set, replicate, sym, ap, ◌∙◌, arith}
use Rattle.std.proofs.lemmas.Nat.{mod_below}
use Rattle.std.proofs.lemmas.List.{get_or_at, set_at, append_assoc, length_push}
use Rattle.sheet.specs.Encode.{bits_of, each, pack}
use Rattle.sheet.specs.Writing.{put}

-- zeros and ones
abbrev pub Binary : List ℕ → Type 0
Binary [] = Unit {0}
Binary (x ∷ xs) = (x < 2) × Binary xs

pub binary_append : (xs ys : List ℕ) → Binary xs → Binary ys → Binary (xs ++ ys)
binary_append [] ys h k = k
binary_append (x ∷ xs) ys h k = (h.0, binary_append xs ys h.1 k)

pub binary_bits : (k v : ℕ) → Binary (bits_of k v)
binary_bits zero v = tt
binary_bits (suc k) v = (mod_below (v / 2 ^ k) 2 (omega arith), binary_bits k v)

pub binary_each : (f : ℕ → List ℕ) (m k : ℕ) → ((j : ℕ) → Binary (f j)) → Binary (each f m k)
binary_each f zero k h = tt
binary_each f (suc m) k h = binary_append (f k) (each f m (k + 1)) (h k) (binary_each f m (k + 1) h)

pub binary_zeros : (m : ℕ) → Binary (replicate m 0)
binary_zeros zero = tt
binary_zeros (suc m) = (omega arith, binary_zeros m)

-- one bit into the byte after those of p
push_at : (p : List ℕ) (y : ℕ) (ys : List ℕ) (n b : ℕ) (bs : List ℕ) → n / 8 ≡ length p
    → put (p ++ y ∷ ys) n (b ∷ bs) ≡ put (p ++ (y % 128 * 2 + b) ∷ ys) (n + 1) bs
push_at p y ys n b bs e =
    let g : get_or (p ++ y ∷ ys) (n / 8) 0 ≡ y = get_or_at p y ys 0 (n / 8) (sym e) in
    let s : set (p ++ y ∷ ys) (n / 8) (y % 128 * 2 + b) ≡ p ++ (y % 128 * 2 + b) ∷ ys = set_at p y ys (y % 128 * 2 + b) (n / 8) (sym e) in
    rw (g, s)

shifted1 : (z v b : ℕ) → z % 2 ≡ v → b < 2 → (z % 128 * 2 + b) % 4 ≡ v * 2 + b
shifted1 z v b e q = omega arith

shifted2 : (z v b : ℕ) → z % 4 ≡ v → b < 2 → (z % 128 * 2 + b) % 8 ≡ v * 2 + b
shifted2 z v b e q = omega arith

shifted3 : (z v b : ℕ) → z % 8 ≡ v → b < 2 → (z % 128 * 2 + b) % 16 ≡ v * 2 + b
shifted3 z v b e q = omega arith

shifted4 : (z v b : ℕ) → z % 16 ≡ v → b < 2 → (z % 128 * 2 + b) % 32 ≡ v * 2 + b
shifted4 z v b e q = omega arith

shifted5 : (z v b : ℕ) → z % 32 ≡ v → b < 2 → (z % 128 * 2 + b) % 64 ≡ v * 2 + b
shifted5 z v b e q = omega arith

shifted6 : (z v b : ℕ) → z % 64 ≡ v → b < 2 → (z % 128 * 2 + b) % 128 ≡ v * 2 + b
shifted6 z v b e q = omega arith

shifted7 : (z v b : ℕ) → z % 128 ≡ v → b < 2 → (z % 128 * 2 + b) % 256 ≡ v * 2 + b
shifted7 z v b e q = omega arith

last : (m h v : ℕ) → m < 128 → h < 2 → (m * 2 + h) % 256 ≡ v → m * 2 + h ≡ v
last m h v p q e = omega arith

-- eight bits push out what a byte had
whole_byte : (y a b c d e f g h : ℕ) → a < 2 → b < 2 → c < 2 → d < 2 → e < 2 → f < 2 → g < 2 → h < 2
    → (((((((y % 128 * 2 + a) % 128 * 2 + b) % 128 * 2 + c) % 128 * 2 + d) % 128 * 2 + e) % 128 * 2 + f) % 128 * 2 + g) % 128 * 2 + h
    ≡ a * 128 + b * 64 + c * 32 + d * 16 + e * 8 + f * 4 + g * 2 + h
whole_byte y a b c d e f g h pa pb pc pd pe pf pg ph =
    let s1 : (y % 128 * 2 + a) % 2 ≡ a = omega arith in
    let s2 = shifted1 _ _ b s1 pb in
    let s3 = shifted2 _ _ c s2 pc in
    let s4 = shifted3 _ _ d s3 pd in
    let s5 = shifted4 _ _ e s4 pe in
    let s6 = shifted5 _ _ f s5 pf in
    let s7 = shifted6 _ _ g s6 pg in
    let s8 = shifted7 _ _ h s7 ph in
    last _ h _ (mod_below _ 128 (omega arith)) ph s8 ∙ omega arith

push_eight : (p : List ℕ) (y : ℕ) (rest : List ℕ) (j a b c d e f g h : ℕ) (xs : List ℕ) → length p ≡ j → Binary (a ∷ b ∷ c ∷ d ∷ e ∷ f ∷ g ∷ h ∷ xs)
    → put (p ++ y ∷ rest) (8 * j) (a ∷ b ∷ c ∷ d ∷ e ∷ f ∷ g ∷ h ∷ xs) ≡ put (p ++ (a * 128 + b * 64 + c * 32 + d * 16 + e * 8 + f * 4 + g * 2 + h) ∷ rest) (8 * (j + 1)) xs
push_eight p y rest j a b c d e f g h xs q z =
    let s0 = push_at p y rest (8 * j) a (b ∷ c ∷ d ∷ e ∷ f ∷ g ∷ h ∷ xs) (omega arith) in
    let s1 = push_at p (y % 128 * 2 + a) rest (8 * j + 1) b (c ∷ d ∷ e ∷ f ∷ g ∷ h ∷ xs) (omega arith) in
    let s2 = push_at p ((y % 128 * 2 + a) % 128 * 2 + b) rest (8 * j + 1 + 1) c (d ∷ e ∷ f ∷ g ∷ h ∷ xs) (omega arith) in
    let s3 = push_at p (((y % 128 * 2 + a) % 128 * 2 + b) % 128 * 2 + c) rest (8 * j + 1 + 1 + 1) d (e ∷ f ∷ g ∷ h ∷ xs) (omega arith) in
    let s4 = push_at p ((((y % 128 * 2 + a) % 128 * 2 + b) % 128 * 2 + c) % 128 * 2 + d) rest (8 * j + 1 + 1 + 1 + 1) e (f ∷ g ∷ h ∷ xs) (omega arith) in
    let s5 = push_at p (((((y % 128 * 2 + a) % 128 * 2 + b) % 128 * 2 + c) % 128 * 2 + d) % 128 * 2 + e) rest (8 * j + 1 + 1 + 1 + 1 + 1) f (g ∷ h ∷ xs) (omega arith) in
    let s6 = push_at p ((((((y % 128 * 2 + a) % 128 * 2 + b) % 128 * 2 + c) % 128 * 2 + d) % 128 * 2 + e) % 128 * 2 + f) rest (8 * j + 1 + 1 + 1 + 1 + 1 + 1) g (h ∷ xs) (omega arith) in
    let s7 = push_at p (((((((y % 128 * 2 + a) % 128 * 2 + b) % 128 * 2 + c) % 128 * 2 + d) % 128 * 2 + e) % 128 * 2 + f) % 128 * 2 + g) rest (8 * j + 1 + 1 + 1 + 1 + 1 + 1 + 1) h (xs) (omega arith) in
    let w = whole_byte y a b c d e f g h z.0 z.1.0 z.1.1.0 z.1.1.1.0 z.1.1.1.1.0 z.1.1.1.1.1.0 z.1.1.1.1.1.1.0 z.1.1.1.1.1.1.1.0 in
    let t : 8 * j + 1 + 1 + 1 + 1 + 1 + 1 + 1 + 1 ≡ 8 * (j + 1) = omega arith in
    s0 ∙ (s1 ∙ (s2 ∙ (s3 ∙ (s4 ∙ (s5 ∙ (s6 ∙ (s7 ∙ (cc (w, t)))))))))

-- bits eight by eight into the bytes after those of p
pub put-pack : (xs p rest : List ℕ) (j k : ℕ) → length p ≡ j → Binary xs → length xs ≡ 8 * k → k ≤ length rest
    → put (p ++ rest) (8 * j) xs ≡ p ++ (pack xs ++ drop k rest)
put-pack [] p rest j k q z l r = let o : k ≡ 0 = omega arith in rw o
put-pack (a ∷ []) p rest j k q z l r = absurd (omega arith)
put-pack (a ∷ b ∷ []) p rest j k q z l r = absurd (omega arith)
put-pack (a ∷ b ∷ c ∷ []) p rest j k q z l r = absurd (omega arith)
put-pack (a ∷ b ∷ c ∷ d ∷ []) p rest j k q z l r = absurd (omega arith)
put-pack (a ∷ b ∷ c ∷ d ∷ e ∷ []) p rest j k q z l r = absurd (omega arith)
put-pack (a ∷ b ∷ c ∷ d ∷ e ∷ f ∷ []) p rest j k q z l r = absurd (omega arith)
put-pack (a ∷ b ∷ c ∷ d ∷ e ∷ f ∷ g ∷ []) p rest j k q z l r = absurd (omega arith)
put-pack (a ∷ b ∷ c ∷ d ∷ e ∷ f ∷ g ∷ h ∷ xs) p [] j k q z l r = absurd (omega arith)
put-pack (a ∷ b ∷ c ∷ d ∷ e ∷ f ∷ g ∷ h ∷ xs) p (y ∷ rest) j k q z l r =
    let v = a * 128 + b * 64 + c * 32 + d * 16 + e * 8 + f * 4 + g * 2 + h in
    let o : k ≡ suc (k - 1) = omega arith in
    let m = put-pack xs (p ++ v ∷ []) rest (j + 1) (k - 1) (length_push p v ∙ ap (λ n. n + 1) q) z.1.1.1.1.1.1.1.1 (omega arith) (omega arith) in
    push_eight p y rest j a b c d e f g h xs q z
    ∙ (ap (λ t. put t (8 * (j + 1)) xs) (sym (append_assoc p (v ∷ []) rest))
    ∙ (m
    ∙ (append_assoc p (v ∷ []) (pack xs ++ drop (k - 1) rest)
    ∙ ap (λ n. p ++ (v ∷ (pack xs ++ drop n (y ∷ rest)))) (sym o))))

pub length-pack : (xs : List ℕ) (k : ℕ) → length xs ≡ 8 * k → length (pack xs) ≡ k
length-pack [] k l = omega arith
length-pack (a ∷ []) k l = absurd (omega arith)
length-pack (a ∷ b ∷ []) k l = absurd (omega arith)
length-pack (a ∷ b ∷ c ∷ []) k l = absurd (omega arith)
length-pack (a ∷ b ∷ c ∷ d ∷ []) k l = absurd (omega arith)
length-pack (a ∷ b ∷ c ∷ d ∷ e ∷ []) k l = absurd (omega arith)
length-pack (a ∷ b ∷ c ∷ d ∷ e ∷ f ∷ []) k l = absurd (omega arith)
length-pack (a ∷ b ∷ c ∷ d ∷ e ∷ f ∷ g ∷ []) k l = absurd (omega arith)
length-pack (a ∷ b ∷ c ∷ d ∷ e ∷ f ∷ g ∷ h ∷ xs) k l = omega (arith, length-pack xs (k - 1) (omega arith))
