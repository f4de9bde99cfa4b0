-- What the steps of decoding one word promise each other: arrays that hold what the coding theory speaks of (document 01, "Codewords").
use Rattle.std.specs.Prelude.{◌≡◌, ◌≢◌, Bool, true, false, List, ◌∷◌, ◌++◌, ℕ, suc, ◌+◌, ◌-◌, ◌*◌, ◌≤◌, ◌<◌, length, get_or, take, set, replicate}
use Rattle.field.specs.Field.{◌⊕◌, ◌·◌, pow, inverse_of}
use Rattle.field.specs.Line.{to_conventional}
use Rattle.codewords.specs.Polynomials.{eval, ◌⊞◌, shift_by, quot, dot}
use Rattle.codewords.specs.Words.{Octets}
use Rattle.codewords.specs.Locators.{X, weight, syndromes, unmarked_part, GoodWord, times_marks, erasure}
use Rattle.codewords.specs.Errors.{run, error_if_root, error_at, root_flags}

-- An array of so many places, of which the first n hold what f gives.
pub record Filled (f : ℕ → ℕ) (places : ℕ) (out : List ℕ) (n : ℕ) : Type 0 where
  pub size : length out ≡ places
  pub each : (i : ℕ) → i < n → get_or out i 0 ≡ f i

-- Two polynomials have the same coefficients, whatever zeros stand above them.
abbrev pub Same : List ℕ → List ℕ → Type 0
Same p q = (j : ℕ) → get_or p j 0 ≡ get_or q j 0

-- A list as a sequence, zero past its end.
unfoldable pub terms : List ℕ → ℕ → ℕ
terms s i = get_or s i 0

-- Coefficient j of (x + z) p.
unfoldable pub by_root_at : ℕ → List ℕ → ℕ → ℕ
by_root_at z p j = get_or (shift_by 1 p) j 0 ⊕ z · get_or p j 0

-- One step of Horner's rule, at the point of each place.
unfoldable pub horner_at : List ℕ → List ℕ → ℕ → ℕ → ℕ
horner_at sums points symbol i = get_or sums i 0 · get_or points i 0 ⊕ symbol

-- Rows place by place: x a + b, a b, a b + c, the inverse of a; and a list from a place on.
unfoldable pub scaled_sum_at : ℕ → List ℕ → List ℕ → ℕ → ℕ
scaled_sum_at x a b i = x · get_or a i 0 ⊕ get_or b i 0

unfoldable pub product_at : List ℕ → List ℕ → ℕ → ℕ
product_at a b i = get_or a i 0 · get_or b i 0

unfoldable pub product_sum_at : List ℕ → List ℕ → List ℕ → ℕ → ℕ
product_sum_at a b c i = get_or a i 0 · get_or b i 0 ⊕ get_or c i 0

unfoldable pub inverse_at : List ℕ → ℕ → ℕ
inverse_at a i = inverse_of (get_or a i 0)

unfoldable pub later_at : List ℕ → ℕ → ℕ → ℕ
later_at list from i = get_or list (from + i) 0

-- The k-th powers of all locators; and the m-th powers of the locators of listed powers of beta.
unfoldable pub power_of_each : ℕ → ℕ → ℕ
power_of_each k i = X (k * i)

unfoldable pub locator_power : List ℕ → ℕ → ℕ → ℕ
locator_power powers m i = pow (X (get_or powers i 0)) m

-- At the point z of each place: the quotient of p by x + z paired with s, and its value at z; the error that these give, at the locators of
-- listed powers; and the value of p at each power of beta from the k-th on.
unfoldable pub divided_at : List ℕ → List ℕ → List ℕ → ℕ → ℕ
divided_at s p points i = dot (terms s) 0 (quot p (get_or points i 0))

unfoldable pub slope_at : List ℕ → List ℕ → ℕ → ℕ
slope_at p points i = eval (quot p (get_or points i 0)) (get_or points i 0)

unfoldable pub error_at_each : List ℕ → List ℕ → ℕ → List ℕ → ℕ → ℕ
error_at_each s p m powers i = error_if_root 0 (terms s) p (X (get_or powers i 0)) (pow (X (get_or powers i 0)) m)

unfoldable pub values_from : List ℕ → ℕ → ℕ → ℕ
values_from p k i = eval p (X (k + i))

-- The terms of s that p pairs from the i-th on.
unfoldable pub windowed : List ℕ → List ℕ → ℕ → ℕ
windowed s p i = dot (terms s) i p

-- The conventional octet of symbol i.
unfoldable pub conventional_at : List ℕ → ℕ → ℕ
conventional_at sent i = to_conventional (get_or sent i 0)

-- A row behind 33 zeros.
unfoldable pub behind_zeros : List ℕ → ℕ → ℕ
behind_zeros row i = get_or (replicate 33 0 ++ row) i 0

-- The coefficients of a polynomial from the top-th down.
unfoldable pub from_top : List ℕ → ℕ → ℕ → ℕ
from_top p top j = get_or (0 ∷ p) (suc top - j) 0

-- b times the taps with d times what stands in an array from a place on.
unfoldable pub blended_from : List ℕ → ℕ → List ℕ → ℕ → ℕ → ℕ → ℕ
blended_from taps b kept from d j = b · get_or taps j 0 ⊕ d · get_or kept (from + j) 0

-- A row is put behind the first 33 places, which stay.
pub record PutBehind (row before after : List ℕ) : Type 0 where
  pub size : length after ≡ length before
  pub front : (i : ℕ) → i < 33 → get_or after i 0 ≡ get_or before i 0
  pub here : (j : ℕ) → j < 32 → get_or after (33 + j) 0 ≡ get_or row j 0

-- The number and the array hold the register after the first n terms of S, its polynomial from the top down, as far as 32 coefficients.
pub record HoldsRegister (S : ℕ → ℕ) (n len : ℕ) (taps : List ℕ) : Type 0 where
  pub len_is : len ≡ (run S n).len
  pub taps_are : (j : ℕ) → j < 32 → get_or taps j 0 ≡ from_top (run S n).sig len j
  pub taps_size : length taps ≡ 32

-- The array holds the polynomial of the taps, lowest coefficient first, if it has no more than 32 coefficients.
pub record HoldsPolynomial (taps : List ℕ) (len : ℕ) (out : List ℕ) : Type 0 where
  pub size : length out ≡ 33
  pub each : len < 32 → (j : ℕ) → get_or out j 0 ≡ from_top taps len j

-- The array holds the polynomial start times those of the marked places, if that has no more than 33 coefficients.
pub record HoldsProduct (start marks out : List ℕ) : Type 0 where
  pub size : length out ≡ 33
  pub same : (q : List ℕ) → Same start q → length q + weight marks ≤ 33 → Same out (times_marks marks q)

-- The number and, if it is below 32, the array hold the register of the syndromes s as the marked places change them.
pub record HoldsChanged (s marks : List ℕ) (len : ℕ) (sigma : List ℕ) : Type 0 where
  pub len_is : len ≡ (run (λ i. dot (terms s) i (erasure marks)) (length s - weight marks)).len
  pub sigma_is : len < 32 → Same sigma (run (λ i. dot (terms s) i (erasure marks)) (length s - weight marks)).sig
  pub sigma_size : length sigma ≡ 33
  pub few : len + weight marks ≤ length s

-- For each point z, with one coefficient c more and a factor x: x rest + above, z below + rest, and z rest + c; so far in the first n places.
pub record CoefficientTaken (points above below rest : List ℕ) (x c : ℕ) (above' below' rest' : List ℕ) (n : ℕ) : Type 0 where
  pub above_is : Filled (scaled_sum_at x rest above) 16 above' n
  pub below_is : Filled (product_sum_at points below rest) 16 below' n
  pub rest_is : Filled (horner_at rest points c) 16 rest' n

-- For each point: the quotient of p by x + z, paired with s, and its value at z.
pub record HoldsDivision (s p points above below : List ℕ) : Type 0 where
  pub above_is : Filled (divided_at s p points) 16 above 16
  pub below_is : Filled (slope_at p points) 16 below 16

-- A polynomial in three parts at each point: at each cube root z of the point it is first + z (second + z third).
pub record InThirds (p points first second third : List ℕ) : Type 0 where
  pub first_size : length first ≡ 16
  pub second_size : length second ≡ 16
  pub third_size : length third ≡ 16
  pub value : (i z : ℕ) → i < 16 → pow z 3 ≡ get_or points i 0 → eval p z ≡ get_or first i 0 ⊕ z · (get_or second i 0 ⊕ z · get_or third i 0)

-- With a cube root z of each point and its square: the parts a, b = z second and c = z z third, summed as they are, and as z turned once and
-- twice by the 85th power of beta sums them; so far in the first n places.
pub record Joined (a second third z square here further furthest : List ℕ) (n : ℕ) : Type 0 where
  pub here_is : Filled (λ i. get_or a i 0 ⊕ get_or z i 0 · get_or second i 0 ⊕ get_or square i 0 · get_or third i 0) 16 here n
  pub further_is : Filled (λ i. get_or a i 0 ⊕ get_or square i 0 · get_or third i 0 ⊕ 0xAB · (get_or z i 0 · get_or second i 0 ⊕ get_or square i 0 · get_or third i 0)) 16 further n
  pub furthest_is : Filled (λ i. get_or a i 0 ⊕ get_or z i 0 · get_or second i 0 ⊕ 0xAB · (get_or z i 0 · get_or second i 0 ⊕ get_or square i 0 · get_or third i 0)) 16 furthest n

-- A row is put into a list from a place on; the others are as they were.
pub record RowPut (at : ℕ) (row before after : List ℕ) : Type 0 where
  pub size : length after ≡ length before
  pub here : (i : ℕ) → i < 16 → get_or after (at + i) 0 ≡ get_or row i 0
  pub before_it : (n : ℕ) → n < at → get_or after n 0 ≡ get_or before n 0
  pub behind_it : (n : ℕ) → at + 16 ≤ n → get_or after n 0 ≡ get_or before n 0

-- One root more in the list, if there is room.
pub record OneMore (count : ℕ) (powers : List ℕ) (power : ℕ) (count' : ℕ) (powers' : List ℕ) : Type 0 where
  pub count_is : count' ≡ count + 1
  pub powers_are : powers' ≡ set powers count power

-- A power stands in the list, unless its place there is past the 32nd.
pub record Listed (powers : List ℕ) (count power : ℕ) : Type 0 where
  pub at : ℕ
  pub below : at < count
  pub is : at < 32 → get_or powers at 0 ≡ power

-- What stands in the list is a root.
pub record ListedRoot (lambda : List ℕ) (k power : ℕ) : Type 0 where
  pub below : power < k
  pub root : eval lambda (X power) ≡ 0

-- The roots of lambda among the powers of beta below the k-th: their number, and a list of the first 32.
pub record HoldsRoots (lambda : List ℕ) (k count : ℕ) (powers : List ℕ) : Type 0 where
  pub few : count ≤ k
  pub count_is : count ≡ weight (root_flags lambda k)
  pub powers_size : length powers ≡ 32
  pub listed : (i : ℕ) → i < k → eval lambda (X i) ≡ 0 → Listed powers count i
  pub sound : (c : ℕ) → c < count → c < 32 → ListedRoot lambda k (get_or powers c 0)

-- The first so many of a list of powers are roots.
abbrev pub AreRoots : List ℕ → ℕ → List ℕ → ℕ → Type 0
AreRoots lambda k powers count = (c : ℕ) → c < count → ListedRoot lambda k (get_or powers c 0)

-- The errors of the first c roots at their places among len, and nothing elsewhere.
pub record Placed (s lambda : List ℕ) (len m : ℕ) (powers out : List ℕ) (c : ℕ) : Type 0 where
  pub size : length out ≡ 255
  pub written : (b : ℕ) → b < c → get_or out (len - suc (get_or powers b 0)) 0 ≡ error_at (terms s) lambda m (get_or powers b 0)
  pub others : (i : ℕ) → ((b : ℕ) → b < c → i ≢ len - suc (get_or powers b 0)) → get_or out i 0 ≡ 0

-- The errors of a word's places; past the word there are none.
pub record HoldsPlaces (s lambda : List ℕ) (len m : ℕ) (errors : List ℕ) : Type 0 where
  pub size : length errors ≡ 255
  pub each : (i : ℕ) → i < len → get_or errors i 0 ≡ error_at (terms s) lambda m (len - suc i)
  pub past : (i : ℕ) → len ≤ i → get_or errors i 0 ≡ 0

-- The decision about a word r with marks d: a good codeword, by what is to be added, and its unmarked differences; or there is none.
pub record Decided (m e s : ℕ) (d r : List ℕ) (found : Bool) (errors : List ℕ) (unmarked : ℕ) : Type 0 where
  pub size : length errors ≡ 255
  pub past : (i : ℕ) → length r ≤ i → get_or errors i 0 ≡ 0
  pub good : found ≡ true → GoodWord m e s d r (r ⊞ take (length r) errors)
  pub count : found ≡ true → unmarked ≡ weight (unmarked_part d (take (length r) errors))
  pub none : found ≡ false → (c : List ℕ) → GoodWord m e s d r c → ⊥

-- The decision about whichever word, as long as the marks, has these syndromes.
abbrev pub DecidedBy : ℕ → ℕ → ℕ → List ℕ → List ℕ → Bool → List ℕ → ℕ → Type 0
DecidedBy m e s d sums found errors unmarked =
    (r : List ℕ) → length r ≡ length d → Octets r → Filled (syndromes m r) (e + e) sums (e + e) → Decided m e s d r found errors unmarked
