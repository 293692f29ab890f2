-- The image: a head page, the log, and home.
use Rattle.std.specs.Prelude.{ℕ, ◌+◌, ◌-◌, ◌*◌, Bool, ◌&&◌, List, [], ◌∷◌, ◌++◌, length, drop, get_or, replicate, leb, eqb}
use Rattle.wire.specs.Bytes.{part, get16, bytes16, equal, blank, zeros_but}

-- bytes 0–3: the ASCII letters CIX1
unfoldable pub letters : List ℕ
letters = 67 ∷ 73 ∷ 88 ∷ 49 ∷ []

-- bytes 4–5, log capacity L; 6–7, record pages R; 8–9, entry count; 10, the mark (0 clear, 165 committed)
abbrev pub capacity : List ℕ → ℕ
capacity l = get16 l 4

abbrev pub record_pages : List ℕ → ℕ
record_pages l = get16 l 6

abbrev pub count : List ℕ → ℕ
count l = get16 l 8

abbrev pub mark : List ℕ → ℕ
mark l = get_or l 10 0

-- home: the image's last 26 + R pages of 64 bytes, behind the head and L log entries of 66 bytes
abbrev pub pages : List ℕ → ℕ
pages l = 26 + record_pages l

abbrev pub home_at : List ℕ → ℕ
home_at l = 64 + 66 * capacity l

unfoldable pub home : List ℕ → List ℕ
home l = drop (home_at l) l

-- R is 1 to 1,024, L is 1 to 26 + R
unfoldable pub in_range : ℕ → ℕ → Bool
in_range L R = leb 1 R && leb R 1024 && leb 1 L && leb L (26 + R)

abbrev pub image_length : ℕ → ℕ → ℕ
image_length L R = 64 + 66 * L + 64 * (26 + R)

-- head and length are right, mark and entry count aside
unfoldable pub head_ok : List ℕ → Bool
head_ok l =
    leb 64 (length l)
    && equal (part l 0 4) letters
    && in_range (capacity l) (record_pages l)
    && blank (part l 11 53)
    && eqb (length l) (image_length (capacity l) (record_pages l))

-- an empty image: the head with entry count and mark 0, and zeros from byte 64 on but for the byte v at offset p of home
unfoldable pub head_page : ℕ → ℕ → List ℕ
head_page L R = letters ++ (bytes16 L ++ (bytes16 R ++ replicate 56 0))

unfoldable pub empty_image : ℕ → ℕ → ℕ → ℕ → List ℕ
unfolding zeros_but
empty_image L R p v = head_page L R ++ zeros_but (66 * L + p) v (image_length L R - 64)
