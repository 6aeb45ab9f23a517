-- What chains over two rows, and an array made place by place, come to.
use Rattle.std.proofs.Common.{◌≡◌, ℕ, zero, suc, ◌+◌, ◌<◌, ◌≤◌, Bool, List, length, get_or, take, sym, refl, ap, subst, ◌∙◌, ⊎_elim, arith}
use Rattle.std.proofs.lemmas.Bool.{cases_eq}
use Rattle.std.proofs.lemmas.List.{get_or-take, take_all, length-take}
use Rattle.std.proofs.lemmas.Slice.Zip.{get_or-zip, length-zip}
use Rattle.std.specs.Array.{IsFromFnResultFrom}
use Rattle.std.specs.Fn.{Called}
use Rattle.std.specs.List.{list_any, zip}
use denote.Param.Members.{Mut}
use Rattle.basics.specs.Scan.{any}
use Rattle.basics.proofs.Scans.{any_rows}

any_below : (f g : ℕ → Bool) (n : ℕ) → ((k : ℕ) → k < n → f k ≡ g k) → any f n ≡ any g n
any_below f g zero h = refl
any_below f g (suc n) h = let a = any_below f g n (λ k b. h k (omega arith)) in let b = h n (omega arith) in rw (a, b)

-- some place among the first n of two rows
pub any_zipped : {A B : Type 0} (p : A × B → Bool) (d : A × B) (xs : List A) (ys : List B) (n : ℕ) → n ≤ length xs → n ≤ length ys
    → list_any p (zip (take n xs) (take n ys)) ≡ any (λ k. p (get_or xs k d.0, get_or ys k d.1)) n
any_zipped p d xs ys n h k =
    let zs = zip (take n xs) (take n ys) in
    let lx : length (take n xs) ≡ n = omega (arith, length-take n xs) in
    let ly : length (take n ys) ≡ n = omega (arith, length-take n ys) in
    let l : length zs ≡ n = omega (arith, length-zip (take n xs) (take n ys)) in
    ap (list_any p) (sym (take_all n zs (omega arith)))
    ∙ any_rows p d zs n (omega arith)
    ∙ any_below _ _ n (λ i b. ap p (get_or-zip (take n xs) (take n ys) i d (omega arith) (omega arith) ∙ ap (λ a. (a, get_or (take n ys) i d.1)) (get_or-take n xs i d.0 b) ∙ ap (λ y. (get_or xs i d.0, y)) (get_or-take n ys i d.1 b)))

-- the place k of an array of what a function gives
pub made_at : {F B : Type 0} {g : Mut F (ℕ × Unit {0}) B} (f : ℕ → B) (d : B) (s : F) (ys : List B)
    → ((x : ℕ) (b : B) (q : F) → Called g s (x, tt) b q → (q ≡ s) × (b ≡ f x)) → (n i : ℕ) → IsFromFnResultFrom g s ys i n
    → (k : ℕ) → i ≤ k → k < i + n → get_or ys k d ≡ f k
made_at f d s ys gives zero i made k low high = absurd (omega arith)
made_at {F} {B} {g} f d s ys gives (suc n) i (q, y, here, call, rest) k low high =
    let given = gives i y q call in
    ⊎_elim
    (λ e. rw e (here.1 d ∙ given.1))
    (λ ne. made_at f d s ys gives n (i + 1) (subst (λ p. IsFromFnResultFrom g p ys (i + 1) n) given.0 rest) k (omega arith) (omega arith))
    (cases_eq k i)
