-- Laws of what is printed.
use Rattle.std.specs.Prelude.{◌≡◌, refl, List, [], ◌∷◌, ◌++◌, ℕ, ◌+◌, ◌*◌, ◌/◌, ◌≤◌, ◌<◌, length}
use Rattle.std.proofs.Common.{sym, ap, ◌∙◌, arith, length-append}
use Rattle.wire.specs.Bytes.{over}
use Rattle.wire.specs.BytesLaws.{over-nil, over-append, length_over}
use Rattle.records.specs.declared.Record.{Record}
use Rattle.records.specs.Records.{record_at, decode, rest}
use Rattle.records.specs.Cells.{length-records, rest_more, rest_end, rest_all}
use Rattle.text.specs.Text.{field}
use Rattle.text.specs.WriteLaws.{Wrote, wrote_start, wrote_then, field_three, field_five, field_ten}
use Rattle.print.specs.Print.{record_line, record_lines, list_lines, ok_line, no_line, bad_line, head_line}

-- ---- lines

record_fields : (r : Record) → record_line r ≡ field r.level 44 ++ (field r.second 44 ++ (field r.phone 44 ++ field r.minutes 10))
unfolding record_line
record_fields r = refl

-- a record's line has at most 25 bytes
pub record_long : (r : Record) → r.level < 256 → r.second < 4294967296 → r.phone < 65536 → r.minutes < 256 → length (record_line r) ≤ 25
record_long r a b c d =
    rw (record_fields r, length-append, length-append, length-append)
    (omega (arith, field_three r.level 44 (omega arith), field_ten r.second 44 b, field_five r.phone 44 c, field_three r.minutes 10 (omega arith)))

pub wrote_record : (l a b c d : List ℕ) (at : ℕ) (r : Record) (i j k e : ℕ) → Wrote l a at (field r.level 44) i → Wrote a b i (field r.second 44) j
    → Wrote b c j (field r.phone 44) k → Wrote c d k (field r.minutes 10) e → Wrote l d at (record_line r) e
wrote_record l a b c d at r i j k e p q s t =
    rw (record_fields r)
    (wrote_then l a d at (field r.level 44) _ i e p
    (wrote_then a b d i (field r.second 44) _ j e q
    (wrote_then b c d j (field r.phone 44) _ k e s t)))

pub ok_line_lem : ok_line ≡ 111 ∷ 107 ∷ 10 ∷ []
unfolding ok_line
ok_line_lem = refl

pub bad_line_lem : bad_line ≡ 98 ∷ 97 ∷ 100 ∷ 10 ∷ []
unfolding bad_line
bad_line_lem = refl

pub wrote_no : (l m k : List ℕ) (n e : ℕ) → m ≡ over l 0 (110 ∷ 111 ∷ 44 ∷ []) → Wrote m k 3 (field n 10) e → (k ≡ over l 0 (no_line n)) × (e ≡ length (no_line n))
unfolding no_line
wrote_no l m k n e p w =
    let t = wrote_then l m k 0 (110 ∷ 111 ∷ 44 ∷ []) (field n 10) 3 e (wrote_start l m (110 ∷ 111 ∷ 44 ∷ []) p) w in
    (t.0, omega (arith, t.1))

pub head_long : (t n : ℕ) → t < 4294967296 → n < 1000 → length (head_line t n) ≤ 20
unfolding head_line
head_long t n g h =
    let e = length-append (field t 44) (field n 10) in
    omega (arith, field_ten t 44 g, field_three n 10 h)

pub wrote_head : (l m k h : List ℕ) (t n i e : ℕ) → m ≡ over l 0 (108 ∷ 105 ∷ 115 ∷ 116 ∷ 44 ∷ []) → Wrote m k 5 (field t 44) i → Wrote k h i (field n 10) e
    → (h ≡ over l 0 (head_line t n)) × (e ≡ length (head_line t n))
unfolding head_line
wrote_head l m k h t n i e p v w =
    let s = wrote_then l m h 0 (108 ∷ 105 ∷ 115 ∷ 116 ∷ 44 ∷ []) (field t 44 ++ field n 10) 5 e (wrote_start l m (108 ∷ 105 ∷ 115 ∷ 116 ∷ 44 ∷ []) p)
    (wrote_then m k h 5 (field t 44) (field n 10) i e v w) in
    (s.0, omega (arith, s.1))

list_lines_lem : (t : ℕ) (rs : List Record) → list_lines t rs ≡ head_line t (length rs) ++ record_lines rs
unfolding list_lines
list_lines_lem t rs = refl

-- ---- the loop over the records

-- the lines of the records from the i-th on, written now, are those of all written at the start
pub record Listed (l s : List ℕ) (start : ℕ) (out : List ℕ) (at i : ℕ) : Type 0 where
  pub within : i ≤ length l / 8
  pub room : at ≤ start + 25 * i
  pub same : length out ≡ length s
  pub end : at + length (record_lines (rest l i)) ≡ start + length (record_lines (decode l))
  pub left : over out at (record_lines (rest l i)) ≡ over s start (record_lines (decode l))

pub listed_start : (l s : List ℕ) (start : ℕ) → Listed l s start s start 0
listed_start l s start = record { within = omega arith; room = omega arith; same = refl; end = rw (rest_all l); left = rw (rest_all l) }

lines_more : (l : List ℕ) (i : ℕ) → i < length l / 8 → record_lines (rest l i) ≡ record_line (record_at l (8 * i)) ++ record_lines (rest l (i + 1))
unfolding record_lines
lines_more l i g = rw (rest_more l i g)

pub listed_turn : (l s : List ℕ) (start : ℕ) (out : List ℕ) (at i : ℕ) (next : List ℕ) (e : ℕ) → i < length l / 8 → Listed l s start out at i
    → Wrote out next at (record_line (record_at l (8 * i))) e → length (record_line (record_at l (8 * i))) ≤ 25 → Listed l s start next e (i + 1)
listed_turn l s start out at i next e g t w h =
    let m = lines_more l i g in
    let n : length (record_lines (rest l i)) ≡ length (record_line (record_at l (8 * i))) + length (record_lines (rest l (i + 1))) = ap length m ∙ rw length-append in
    record {
      within = omega arith;
      room = omega (arith, w.1, t.room);
      same = ap length w.0 ∙ length_over out at (record_line (record_at l (8 * i))) ∙ t.same;
      end = omega (arith, n, w.1, t.end);
      left = rw (w.0, w.1) (over-append out at (record_line (record_at l (8 * i))) (record_lines (rest l (i + 1)))) ∙ ap (over out at) (sym m) ∙ t.left;
    }

pub listed_end : (l o s : List ℕ) (tag start : ℕ) (out : List ℕ) (at i : ℕ) → length l / 8 ≤ i → Listed l s start out at i
    → s ≡ over o 0 (head_line tag (length l / 8)) → start ≡ length (head_line tag (length l / 8))
    → (out ≡ over o 0 (list_lines tag (decode l))) × (at ≡ length (list_lines tag (decode l)))
unfolding record_lines
listed_end l o s tag start out at i g t p q =
    let none : record_lines (rest l i) ≡ [] = rw (rest_end l i g) in
    let h : List ℕ = head_line tag (length l / 8) in
    let e : list_lines tag (decode l) ≡ h ++ record_lines (decode l) = list_lines_lem tag (decode l) ∙ ap (λ (n : ℕ). head_line tag n ++ record_lines (decode l)) (length-records l 0 (length l / 8)) in
    let w = wrote_then o s out 0 h (record_lines (decode l)) start at (p, omega (arith, q))
    (sym (over-nil out at) ∙ ap (over out at) (sym none) ∙ t.left, omega (arith, t.end, ap length none)) in
    rw e (w.0, omega (arith, w.1))
