-- Written orders read back: word by word, line by line.
use Rattle.std.proofs.Common.{◌≡◌, ℕ, ◌+◌, ◌-◌, ◌/◌, ◌%◌, ◌^◌, ◌<◌, ◌≤◌, Bool, true, false, cond, not, eqb, List, [], ◌∷◌, ◌++◌, map, length, get_or, Ok, Some, None, Option, refl, ap, ◌∙◌, append_assoc, append-nil, arith, length-append}
use Rattle.std.proofs.lemmas.Bool.{cond-false, ne_eqb, and_parts}
use Rattle.std.proofs.lemmas.Bool.Decides.{nat_tests}
use Rattle.std.proofs.lemmas.List.Elements.{All-nil, All-cons, All-head, All-tail, All-append, All-get_or, All-weaker}
use Rattle.std.specs.Prelude.{All, codes, nat_le}
use Rattle.std.specs.List.{onto_first, list_all}
use Rattle.wire.specs.declared.multiplexor.Multiplexor.{Multiplexor}
use Rattle.orders.specs.declared.fault.Fault.TheVariants.{NotExpedited}
use Rattle.master.specs.declared.method.Method.{Method}
use Rattle.master.specs.declared.method.Method.TheVariants.{Expedited, Segmented, Block}
use Rattle.orders.specs.Lines.{faulty, longest, is_comment, without_return, bytes_in, value_in, order_of, order_at, order_behind, order_from, order_in, ordered}
use Rattle.orders.specs.Pieces.{is_blank, is_line_end, pieces, not_empty, words, lines}
use Rattle.orders.specs.Texts.{orders_on, orders_in, bad_on, bad_in}
use Rattle.orders.specs.Methods.{name_of, method_named, method_for}
use Rattle.wire.specs.Texts.{hex_digit, hex_byte, multiplexor_text}
use Rattle.orders.specs.Written.{bytes_written, named_before, written, text_written, read_as, Sound, LinesReadBack, TextsReadBack}
use Rattle.orders.proofs.Digits.{digit_above, digit_below, byte_read, multiplexor-read}

-- a piece that holds no separator
abbrev Whole : (ℕ → Bool) → List ℕ → Type 0
Whole parts w = All (λ b. parts b ≡ false) w

pieces_first : (parts : ℕ → Bool) (s : ℕ) → parts s ≡ true → (w rest : List ℕ) → Whole parts w → pieces parts (w ++ s ∷ rest) ≡ w ∷ pieces parts rest
pieces_first parts s sep [] rest whole = rw sep
pieces_first parts s sep (b ∷ w) rest whole =
    let Part : ℕ → Type 0 = λ c. parts c ≡ false in
    let first = All-head Part b w whole in rw first (ap (onto_first b) (pieces_first parts s sep w rest (All-tail Part b w whole)))

pieces-last : (parts : ℕ → Bool) (b : ℕ) (w : List ℕ) → Whole parts (b ∷ w) → pieces parts (b ∷ w) ≡ (b ∷ w) ∷ []
pieces-last parts b [] whole = let first = All-head (λ c. parts c ≡ false) b [] whole in rw first
pieces-last parts b (c ∷ w) whole =
    let Part : ℕ → Type 0 = λ d. parts d ≡ false in
    let first = All-head Part b (c ∷ w) whole in rw first (ap (onto_first b) (pieces-last parts c w (All-tail Part b (c ∷ w) whole)))

-- what is above a blank parts no words, and what is no less parts no lines
dark : (b : ℕ) → 48 ≤ b → is_blank b ≡ false
dark b h = grind (arith, nat_tests)

inline : (b : ℕ) → 32 ≤ b → is_line_end b ≡ false
inline b h = grind (arith, nat_tests)

above : (c : ℕ) → nat_le 48 c ≡ true → 48 ≤ c
above c test = grind (arith, nat_tests)

-- letters are above the digits, which a test of all shows
letters : (w : List ℕ) → list_all (nat_le 48) w ≡ true → All (λ c. 48 ≤ c) w
letters [] test = All-nil (λ c. 48 ≤ c)
letters (c ∷ w) test =
    let both = and_parts (nat_le 48 c) (list_all (nat_le 48) w) test in
    let first : 48 ≤ c = above c both.0 in All-cons (λ c. 48 ≤ c) c w first (letters w both.1)

byte_dark : (b : ℕ) → All (λ c. 48 ≤ c) (hex_byte b)
byte_dark b =
    let Dark : ℕ → Type 0 = λ c. 48 ≤ c in
    let high = hex_digit (b / 16) in
    let low = hex_digit (b % 16) in
    All-cons Dark high (low ∷ []) (digit_above (b / 16)) (All-cons Dark low [] (digit_above (b % 16)) (All-nil Dark))

multiplexor_dark : (m : Multiplexor) → All (λ c. 48 ≤ c) (multiplexor_text m)
multiplexor_dark m =
    let Dark : ℕ → Type 0 = λ c. 48 ≤ c in
    let high = m.index / 256 % 256 in
    let low = m.index % 256 in
    let rest = codes ":" ++ hex_byte m.subindex in
    All-append Dark (hex_byte high) (hex_byte low ++ rest) (byte_dark high)
    (All-append Dark (hex_byte low) rest (byte_dark low) (All-cons Dark 58 (hex_byte m.subindex) (omega arith) (byte_dark m.subindex)))

lighter : (w : List ℕ) → All (λ c. 48 ≤ c) w → All (λ c. 32 ≤ c) w
lighter w h = All-weaker (λ c. 48 ≤ c) (λ c. 32 ≤ c) (λ c k. omega arith) w h

kept : (c : ℕ) (w : List ℕ) (ps : List (List ℕ)) → not_empty ((c ∷ w) ∷ ps) ≡ (c ∷ w) ∷ not_empty ps
kept c w ps = let some : eqb (length (c ∷ w)) 0 ≡ false = ne_eqb _ _ (λ e. omega arith) in ap (λ t. cond (not t) ((c ∷ w) ∷ not_empty ps) (not_empty ps)) some

words_first : (c : ℕ) (w line : List ℕ) → Whole is_blank (c ∷ w) → words ((c ∷ w) ++ 32 ∷ line) ≡ (c ∷ w) ∷ words line
words_first c w line whole = ap not_empty (pieces_first is_blank 32 refl (c ∷ w) line whole) ∙ kept c w (pieces is_blank line)

words-written : (c : ℕ) (w v : List ℕ) → Whole is_blank (c ∷ w) → words ((c ∷ w) ++ bytes_written v) ≡ (c ∷ w) ∷ map hex_byte v
words-written c w [] whole = ap words (append-nil (c ∷ w)) ∙ ap not_empty (pieces-last is_blank c w whole) ∙ kept c w []
words-written c w (b ∷ v) whole =
    ap not_empty (pieces_first is_blank 32 refl (c ∷ w) (hex_byte b ++ bytes_written v) whole) ∙ kept c w (pieces is_blank (hex_byte b ++ bytes_written v))
    ∙ ap (λ ws. (c ∷ w) ∷ ws) (words-written (hex_digit (b / 16)) (hex_digit (b % 16) ∷ []) v (All-weaker (λ c. 48 ≤ c) (λ c. is_blank c ≡ false) dark (hex_byte b) (byte_dark b)))

bytes_read : (bs v : List ℕ) → All (λ b. b < 2 ^ 8) v → length bs + length v ≤ longest → bytes_in bs (map hex_byte v) ≡ Ok (bs ++ v)
bytes_read bs [] small fits = rw append-nil
bytes_read bs (b ∷ v) small fits =
    let room : eqb (length bs) longest ≡ false = ne_eqb _ _ (λ e. omega arith) in
    let fewer : length (bs ++ b ∷ []) + length v ≤ longest = simp length-append (omega arith) in
    let first = byte_read b (All-head (λ c. c < 2 ^ 8) b v small) in
    rw (first, room) (bytes_read (bs ++ b ∷ []) v (All-tail (λ c. c < 2 ^ 8) b v small) fewer ∙ ap Ok (append_assoc bs (b ∷ []) v))

value_read : (v : List ℕ) → All (λ b. b < 2 ^ 8) v → 0 < length v → length v ≤ longest → value_in (map hex_byte v) ≡ Ok v
value_read [] small some fits = absurd (omega arith)
value_read (b ∷ v) small some fits = bytes_read [] (b ∷ v) small (omega arith)

-- a written line has blanks, and nothing below them
bytes_light : (v : List ℕ) → All (λ c. 32 ≤ c) (bytes_written v)
bytes_light [] = All-nil (λ c. 32 ≤ c)
bytes_light (b ∷ v) =
    let Light : ℕ → Type 0 = λ c. 32 ≤ c in
    All-cons Light 32 (hex_byte b ++ bytes_written v) (omega arith) (All-append Light (hex_byte b) (bytes_written v) (lighter (hex_byte b) (byte_dark b)) (bytes_light v))

order_light : (m : Multiplexor) (v : List ℕ) → All (λ c. 32 ≤ c) (multiplexor_text m ++ bytes_written v)
order_light m v = All-append (λ c. 32 ≤ c) (multiplexor_text m) (bytes_written v) (lighter (multiplexor_text m) (multiplexor_dark m)) (bytes_light v)

-- the names of methods are letters
name_dark : (t : Method) → All (λ c. 48 ≤ c) (name_of t)
name_dark Expedited = letters (name_of Expedited) refl
name_dark Segmented = letters (name_of Segmented) refl
name_dark Block = letters (name_of Block) refl

name_whole : (t : Method) → Whole is_blank (name_of t)
name_whole t = All-weaker (λ c. 48 ≤ c) (λ c. is_blank c ≡ false) dark (name_of t) (name_dark t)

name_read : (t : Method) → method_named (name_of t) ≡ Some t
name_read Expedited = refl
name_read Segmented = refl
name_read Block = refl

light : (named : Option Method) (m : Multiplexor) (v : List ℕ) → All (λ c. 32 ≤ c) (written named m v)
light None m v = order_light m v
light (Some t) m v = All-append (λ c. 32 ≤ c) (name_of t) (32 ∷ (multiplexor_text m ++ bytes_written v)) (lighter (name_of t) (name_dark t)) (All-cons (λ c. 32 ≤ c) 32 (multiplexor_text m ++ bytes_written v) (omega arith) (order_light m v))

no_return : (line : List ℕ) → All (λ c. 32 ≤ c) line → without_return line ≡ line
no_return [] h = refl
no_return (c ∷ line) h =
    let last = All-get_or (λ c. 32 ≤ c) (c ∷ line) (length (c ∷ line) - 1) 0 (omega arith) h in
    let other : eqb (get_or (c ∷ line) (length (c ∷ line) - 1) 0) 13 ≡ false = ne_eqb _ _ (λ e. omega arith) in
    cond-false _ _ _ other

-- a multiplexor is no name of a method
multiplexor_unnamed : (m : Multiplexor) → m.index < 2 ^ 16 → method_named (multiplexor_text m) ≡ None
multiplexor_unnamed m h =
    let low : hex_digit (m.index / 256 % 256 / 16) ≤ 70 = digit_below (m.index / 256 % 256 / 16) (omega arith) in
    let e : eqb (hex_digit (m.index / 256 % 256 / 16)) 101 ≡ false = ne_eqb _ _ (λ e. omega arith) in
    let s : eqb (hex_digit (m.index / 256 % 256 / 16)) 115 ≡ false = ne_eqb _ _ (λ e. omega arith) in
    let b : eqb (hex_digit (m.index / 256 % 256 / 16)) 98 ≡ false = ne_eqb _ _ (λ e. omega arith) in rw (e, s, b)

-- the words of an order without the name of a method, and with it
words_unnamed : (m : Multiplexor) (v : List ℕ) → words (multiplexor_text m ++ bytes_written v) ≡ multiplexor_text m ∷ map hex_byte v
words_unnamed m v = words-written _ _ v (All-weaker (λ c. 48 ≤ c) (λ c. is_blank c ≡ false) dark (multiplexor_text m) (multiplexor_dark m))

words_named : (t : Method) (line : List ℕ) → words (named_before (Some t) line) ≡ name_of t ∷ words line
words_named Expedited line = words_first 101 (codes "xpedited") line (name_whole Expedited)
words_named Segmented line = words_first 115 (codes "egmented") line (name_whole Segmented)
words_named Block line = words_first 98 (codes "lock") line (name_whole Block)

-- what the words of an order mean, whose method is named or not
rest_read : (named : Option Method) (m : Multiplexor) (v : List ℕ) → Sound named m v → order_behind named (multiplexor_text m ∷ map hex_byte v) ≡ ordered (method_for named v) m v
rest_read named m v sound =
    ap (λ o. order_at named o (map hex_byte v)) (multiplexor-read m sound.index sound.subindex)
    ∙ ap (order_of named m) (value_read v sound.bytes sound.some sound.most)
    ∙ ap (λ b. cond b (ordered (method_for named v) m v) (faulty NotExpedited)) sound.room

words_read : (named : Option Method) (m : Multiplexor) (v : List ℕ) → Sound named m v → order_in (words (written named m v)) ≡ ordered (method_for named v) m v
words_read None m v sound = ap order_in (words_unnamed m v) ∙ ap (λ n. order_from n (multiplexor_text m) (map hex_byte v)) (multiplexor_unnamed m sound.index) ∙ rest_read None m v sound
words_read (Some t) m v sound =
    ap order_in (words_named t (multiplexor_text m ++ bytes_written v) ∙ ap (λ ws. name_of t ∷ ws) (words_unnamed m v))
    ∙ ap (λ n. order_from n (name_of t) (multiplexor_text m ∷ map hex_byte v)) (name_read t)
    ∙ rest_read (Some t) m v sound

-- an order's line is no comment
no_comment : (named : Option Method) (m : Multiplexor) (v : List ℕ) → is_comment (written named m v) ≡ false
no_comment None m v = ne_eqb _ _ (λ e. omega (arith, digit_above (m.index / 256 % 256 / 16)))
no_comment (Some Expedited) m v = refl
no_comment (Some Segmented) m v = refl
no_comment (Some Block) m v = refl

pub lines_read_back : LinesReadBack
lines_read_back named m v sound = cond-false _ _ _ (no_comment named m v) ∙ ap (λ l. order_in (words l)) (no_return (written named m v) (light named m v)) ∙ words_read named m v sound

-- the same of all lines, the first of which has number n
all_read : (os : List (Option Method × Multiplexor × List ℕ)) (n : ℕ) → All (λ o. Sound o.0 o.1 o.2) os → (orders_in (lines (text_written os)) ≡ map read_as os) × (bad_in n (lines (text_written os)) ≡ [])
all_read [] n sound = (refl, refl)
all_read (o ∷ os) n sound =
    let line = written o.0 o.1 o.2 in
    let parted : lines (text_written (o ∷ os)) ≡ line ∷ lines (text_written os) = pieces_first is_line_end 10 refl line (text_written os) (All-weaker (λ c. 32 ≤ c) (λ c. is_line_end c ≡ false) inline line (light o.0 o.1 o.2)) in
    let Read : (Option Method × Multiplexor × List ℕ) → Type 0 = λ q. Sound q.0 q.1 q.2 in
    let meant = lines_read_back o.0 o.1 o.2 (All-head Read o os sound) in
    let rest = all_read os (n + 1) (All-tail Read o os sound) in (
      ap orders_in parted ∙ ap (λ l. orders_on l ++ orders_in (lines (text_written os))) meant ∙ ap (λ l. read_as o ∷ l) rest.0,
      ap (bad_in n) parted ∙ ap (λ l. bad_on n l ++ bad_in (n + 1) (lines (text_written os))) meant ∙ rest.1,
    )

pub texts_read_back : TextsReadBack
texts_read_back os sound = all_read os 1 sound
