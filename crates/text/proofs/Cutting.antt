-- A text, cut one byte on.
use Rattle.std.proofs.Common.{◌-◌, not, cond, ◌==◌, append-nil, append_assoc, length-drop, Bor, map, Some, None, subst, ◌≡◌, ℕ, suc, ◌+◌, ◌<◌, Bool, true, false, List, [], ◌∷◌, ◌++◌, length, get_or, take, drop, sym, refl, ap, ◌∙◌, ap₂, add-one, arith, ne_eqb}
use Rattle.std.proofs.lemmas.Bool.Decides.{nat_tests}
use Rattle.std.proofs.lemmas.Bool.{true≢false}
use mathlib.Core.Option.{Option, none, some}
use Rattle.std.specs.List.{between, prefix_len, find}
use Rattle.std.specs.Prelude as options
use Rattle.std.specs.Option.{option_map, MatchOption}
use Rattle.std.proofs.lemmas.List.{drop_more, drop-drop, get_or-drop}
use Rattle.golog.specs.Words.{Word, Byte, Token, beside, signs, blank, byte_kind, cut, token, run_word}
use Rattle.golog.specs.Words.Word.{strange}
use Rattle.golog.specs.Words.Byte.{space, hash, part, lone}
use Rattle.words.specs.Names.{is_name_byte, same_word}
use Rattle.golog.specs.Words.Cutting.{gap, comment, run}
use Rattle.text.specs.Said.{said}
use Rattle.text.specs.declared.word.Word as told

-- the words from a byte on, by what the byte is: in a comment, between words, and in a run
abbrev at_comment : Bool → ℕ → List ℕ → List Token
at_comment t o bs = elim t [ true ↦ cut gap (suc o) bs | false ↦ cut comment (suc o) bs ]

abbrev at_gap : Byte → ℕ → ℕ → List ℕ → List Token
at_gap k o b bs =
    elim k [
      | space ↦ cut gap (suc o) bs
      | hash ↦ cut comment (suc o) bs
      | part ↦ cut (run o (b ∷ [])) (suc o) bs
      | lone w ↦ token o w ∷ cut gap (suc o) bs
    ]

abbrev at_run : Byte → ℕ → List ℕ → ℕ → ℕ → List ℕ → List Token
at_run k s w o b bs =
    elim k [
      | space ↦ token s (run_word w) ∷ cut gap (suc o) bs
      | hash ↦ token s (run_word w) ∷ cut comment (suc o) bs
      | part ↦ cut (run s (w ++ b ∷ [])) (suc o) bs
      | lone x ↦ token s (run_word w) ∷ token o x ∷ cut gap (suc o) bs
    ]

run_over : (k : Byte) (s : ℕ) (w : List ℕ) (o b : ℕ) (bs : List ℕ) → (part ≡ k → ⊥) → at_run k s w o b bs ≡ token s (run_word w) ∷ at_gap k o b bs
run_over space s w o b bs n = refl
run_over hash s w o b bs n = refl
run_over part s w o b bs n = absurd (n refl)
run_over (lone x) s w o b bs n = refl

-- a comment goes up to LF or the end of the text
abbrev pub in_line : ℕ → Bool
in_line b = not (b == 10)

comment_step : (b : ℕ) (bs : List ℕ) (o : ℕ) (t : Bool) → (b == 10) ≡ t → cut comment (suc o) bs ≡ cut gap (suc o + prefix_len in_line bs) (drop (prefix_len in_line bs) bs) →
    at_comment t o bs ≡ cut gap (o + cond (not t) (1 + prefix_len in_line bs) 0) (drop (cond (not t) (1 + prefix_len in_line bs) 0) (b ∷ bs))
comment_step b bs o true e h =
    let ten : b ≡ 10 = grind (arith, nat_tests) in
    let none : o + 0 ≡ o = omega arith in
    subst (λ n. cut gap (suc o) bs ≡ cut gap (o + 0) (n ∷ bs)) (sym ten) (ap (λ m. cut gap (suc m) bs) (sym none))
comment_step b bs o false e h =
    let one : 1 + prefix_len in_line bs ≡ suc (prefix_len in_line bs) = omega arith in
    let on : suc o + prefix_len in_line bs ≡ o + (1 + prefix_len in_line bs) = omega arith in
    h ∙ ap₂ (cut gap) on (sym (ap (λ n. drop n (b ∷ bs)) one))

pub comment_over : (bs : List ℕ) (o : ℕ) → cut comment o bs ≡ cut gap (o + prefix_len in_line bs) (drop (prefix_len in_line bs) bs)
comment_over [] o = refl
comment_over (b ∷ bs) o = comment_step b bs o (b == 10) refl (comment_over bs (suc o))

-- what a byte is, by the tests of it
abbrev kind_by : Bool → Bool → Bool → Option Word → Byte
kind_by x y z o =
    elim x [ true ↦ space | false ↦ elim y [ true ↦ hash | false ↦ elim z [ true ↦ part | false ↦ elim o [ none ↦ lone strange | some s ↦ lone s ] ] ] ]

kind_part_by : (x y : Bool) (o : Option Word) → x ≡ false → y ≡ false → kind_by x y true o ≡ part
kind_part_by x y o e f = ap₂ (λ a b. kind_by a b true o) e f

kind_other : (x y : Bool) (o : Option Word) → part ≡ kind_by x y false o → ⊥
kind_other true y o e = cc
kind_other false true o e = cc
kind_other false false none e = cc
kind_other false false (some s) e = cc

is_other : (b k : ℕ) → is_name_byte b ≡ true → is_name_byte k ≡ false → (b == k) ≡ false
is_other b k e f = ne_eqb b k (λ h. true≢false (sym e ∙ (ap is_name_byte h ∙ f)))

part_is : (b : ℕ) → is_name_byte b ≡ true → byte_kind b ≡ part
part_is b e =
    let k : blank b ≡ false = simp (is_other b 32 e refl, is_other b 9 e refl, is_other b 13 e refl, is_other b 10 e refl) in
    ap (λ z. kind_by (blank b) (b == 35) z (beside signs (b ∷ []))) e ∙ kind_part_by (blank b) (b == 35) (beside signs (b ∷ [])) k (is_other b 35 e refl)

part_is_not : (b : ℕ) → is_name_byte b ≡ false → part ≡ byte_kind b → ⊥
part_is_not b e h =
    kind_other (blank b) (b == 35) (beside signs (b ∷ [])) (h ∙ ap (λ z. kind_by (blank b) (b == 35) z (beside signs (b ∷ []))) e)

-- a run goes as far as its bytes do
run_step : (b : ℕ) (bs : List ℕ) (s : ℕ) (w : List ℕ) (o : ℕ) (t : Bool) → is_name_byte b ≡ t →
    cut (run s (w ++ b ∷ [])) (suc o) bs
    ≡ token s (run_word ((w ++ b ∷ []) ++ take (prefix_len is_name_byte bs) bs)) ∷ cut gap (suc o + prefix_len is_name_byte bs) (drop (prefix_len is_name_byte bs) bs) →
    at_run (byte_kind b) s w o b bs
    ≡ token s (run_word (w ++ take (cond t (1 + prefix_len is_name_byte bs) 0) (b ∷ bs))) ∷ cut gap (o + cond t (1 + prefix_len is_name_byte bs) 0) (drop (cond t (1 + prefix_len is_name_byte bs) 0) (b ∷ bs))
run_step b bs s w o true e h =
    let one : 1 + prefix_len is_name_byte bs ≡ suc (prefix_len is_name_byte bs) = omega arith in
    let on : suc o + prefix_len is_name_byte bs ≡ o + (1 + prefix_len is_name_byte bs) = omega arith in
    ap (λ k. at_run k s w o b bs) (part_is b e)
    ∙ (h
    ∙ ap₂ (λ v ts. token s (run_word v) ∷ ts)
    (append_assoc w (b ∷ []) (take (prefix_len is_name_byte bs) bs) ∙ ap (λ n. w ++ take n (b ∷ bs)) (sym one))
    (ap₂ (cut gap) on (sym (ap (λ n. drop n (b ∷ bs)) one))))
run_step b bs s w o false e h =
    let none : o + 0 ≡ o = omega arith in
    run_over (byte_kind b) s w o b bs (part_is_not b e) ∙ ap₂ (λ v m. token s (run_word v) ∷ at_gap (byte_kind b) m b bs) (sym (append-nil w)) (sym none)

pub run_over_all : (bs : List ℕ) (s : ℕ) (w : List ℕ) (o : ℕ) →
    cut (run s w) o bs ≡ token s (run_word (w ++ take (prefix_len is_name_byte bs) bs)) ∷ cut gap (o + prefix_len is_name_byte bs) (drop (prefix_len is_name_byte bs) bs)
run_over_all [] s w o = ap (λ v. token s (run_word v) ∷ []) (sym (append-nil w))
run_over_all (b ∷ bs) s w o = run_step b bs s w o (is_name_byte b) refl (run_over_all bs s (w ++ b ∷ []) (suc o))

-- a run that begins with a part
gap_run : (bs : List ℕ) (o d : ℕ) → 0 < length bs → byte_kind (get_or bs 0 d) ≡ part → cut gap o bs ≡ cut (run o []) o bs
gap_run [] o d l e = absurd (omega arith)
gap_run (b ∷ bs) o d l e = ap (λ k. at_gap k o b bs) e ∙ sym (ap (λ k. at_run k o [] o b bs) e)

pub comment_to : (xs : List ℕ) (i n : ℕ) → n ≡ prefix_len in_line (drop i xs) → cut comment i (drop i xs) ≡ cut gap (i + n) (drop (i + n) xs)
comment_to xs i n e =
    comment_over (drop i xs) i ∙ (ap (λ k. cut gap (i + k) (drop k (drop i xs))) (sym e) ∙ ap (cut gap (i + n)) (drop-drop n i xs))

pub run_to : (xs : List ℕ) (i n : ℕ) → i < length xs → byte_kind (get_or xs i 0) ≡ part → n ≡ prefix_len is_name_byte (drop i xs) →
    cut gap i (drop i xs) ≡ token i (run_word (between i (i + n) xs)) ∷ cut gap (i + n) (drop (i + n) xs)
run_to xs i n h k e =
    let zero : i + 0 ≡ i = omega arith in
    let less : i + n - i ≡ n = omega arith in
    gap_run (drop i xs) i 0 (omega (arith, length-drop i xs)) (ap byte_kind (get_or-drop i xs 0 0 ∙ ap (λ n. get_or xs n 0) zero) ∙ k)
    ∙ (run_over_all (drop i xs) i [] i
    ∙ (ap (λ m. token i (run_word (take m (drop i xs))) ∷ cut gap (i + m) (drop m (drop i xs))) (sym e)
    ∙ ap₂ (λ m bs. token i (run_word (take m (drop i xs))) ∷ cut gap (i + n) bs) (sym less) (drop-drop n i xs)))

-- the word beside a run in a list, where it is found by its letters
abbrev pub said_of : options.Option (Bor (List ℕ) × told.Word) → Option Word
said_of None = none
said_of (Some e) = some (said e.1)

beside_step : (t : Bool) (x : Bor (List ℕ) × told.Word) (n : Option Word) (o : options.Option (Bor (List ℕ) × told.Word)) → n ≡ said_of o →
    elim t [ true ↦ some (said x.1) | false ↦ n ] ≡ said_of (cond t (Some x) o)
beside_step true x n o e = refl
beside_step false x n o e = e

pub beside_found : (w : List ℕ) (xs : List (Bor (List ℕ) × told.Word)) → beside (map (λ e. (e.0.now, said e.1)) xs) w ≡ said_of (find (λ e. same_word e.0.now w) xs)
beside_found w [] = refl
beside_found w (x ∷ xs) = beside_step (same_word x.0.now w) x _ _ (beside_found w xs)

pub reserved_is : (n : Option Word) (o : options.Option (Bor (Bor (List ℕ) × told.Word))) (r : options.Option told.Word) → n ≡ said_of (option_map (λ y. y.now) o) →
    MatchOption o (r ≡ None) (λ y. r ≡ Some y.now.1) → MatchOption r (n ≡ none) (λ w. n ≡ some (said w))
reserved_is n None r e h = subst (λ r. MatchOption r (n ≡ none) (λ w. n ≡ some (said w))) (sym h) e
reserved_is n (Some y) r e h = subst (λ r. MatchOption r (n ≡ none) (λ w. n ≡ some (said w))) (sym h) e

-- one byte on, between words
module _ (xs : List ℕ) (i : ℕ) (h : i < length xs) where
  gap_step : (k : Byte) → k ≡ byte_kind (get_or xs i 0) → cut gap i (drop i xs) ≡ at_gap k i (get_or xs i 0) (drop (i + 1) xs)
  gap_step k e = ap (cut gap i) (drop_more xs i 0 h) ∙ ap (λ t. at_gap t i (get_or xs i 0) (drop (i + 1) xs)) (sym e)

  pub gap_blank : space ≡ byte_kind (get_or xs i 0) → cut gap i (drop i xs) ≡ cut gap (i + 1) (drop (i + 1) xs)
  gap_blank e = gap_step space e ∙ ap (λ n. cut gap n (drop (i + 1) xs)) (sym (add-one i))

  pub gap_hash : hash ≡ byte_kind (get_or xs i 0) → cut gap i (drop i xs) ≡ cut comment (i + 1) (drop (i + 1) xs)
  gap_hash e = gap_step hash e ∙ ap (λ n. cut comment n (drop (i + 1) xs)) (sym (add-one i))

  pub gap_lone : (w : Word) → lone w ≡ byte_kind (get_or xs i 0) → cut gap i (drop i xs) ≡ token i w ∷ cut gap (i + 1) (drop (i + 1) xs)
  gap_lone w e = gap_step (lone w) e ∙ ap (λ n. token i w ∷ cut gap n (drop (i + 1) xs)) (sym (add-one i))
