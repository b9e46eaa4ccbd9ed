-- Pieces that were put one after another.
use Rattle.std.proofs.Common.{◌≡◌, ℕ, ◌++◌, List, Result, Ok, Err, ap, ◌∙◌, append_assoc}
use Rattle.std.specs.Prelude.{OnOk}

-- a piece, and then the rest
after : (a x y : List ℕ) {b c : List ℕ} → b ≡ a ++ x → c ≡ b ++ y → c ≡ a ++ (x ++ y)
after a x y {b} {c} one rest = rest ∙ ap (λ t. t ++ y) one ∙ append_assoc a x y

-- a piece that is another one
pub being : (a x : List ℕ) {b y : List ℕ} → b ≡ a ++ x → x ≡ y → b ≡ a ++ y
being a x one same = one ∙ ap (λ t. a ++ t) same

-- where the last piece was put
pub carry : {A E P Q : Type 0} (r : Result A E) → (P → Q) → OnOk r P → OnOk r Q
carry (Ok v) f p = f p
carry (Err e) f p = tt

-- so many pieces
pub chain1 : (a0 p1 : List ℕ) {a1 : List ℕ} → a1 ≡ a0 ++ p1 → a1 ≡ a0 ++ p1
chain1 a0 p1 e1 = e1

pub chain2 : (a0 p1 p2 : List ℕ) {a1 a2 : List ℕ} → a1 ≡ a0 ++ p1 → a2 ≡ a1 ++ p2 → a2 ≡ a0 ++ (p1 ++ p2)
chain2 a0 p1 p2 e1 e2 = after a0 p1 p2 (chain1 a0 p1 e1) e2

pub chain3 : (a0 p1 p2 p3 : List ℕ) {a1 a2 a3 : List ℕ} → a1 ≡ a0 ++ p1 → a2 ≡ a1 ++ p2 → a3 ≡ a2 ++ p3 → a3 ≡ a0 ++ (p1 ++ p2 ++ p3)
chain3 a0 p1 p2 p3 e1 e2 e3 = after a0 (p1 ++ p2) p3 (chain2 a0 p1 p2 e1 e2) e3

pub chain4 : (a0 p1 p2 p3 p4 : List ℕ) {a1 a2 a3 a4 : List ℕ} → a1 ≡ a0 ++ p1 → a2 ≡ a1 ++ p2 → a3 ≡ a2 ++ p3 → a4 ≡ a3 ++ p4 → a4 ≡ a0 ++ (p1 ++ p2 ++ p3 ++ p4)
chain4 a0 p1 p2 p3 p4 e1 e2 e3 e4 = after a0 (p1 ++ p2 ++ p3) p4 (chain3 a0 p1 p2 p3 e1 e2 e3) e4

pub chain5 : (a0 p1 p2 p3 p4 p5 : List ℕ) {a1 a2 a3 a4 a5 : List ℕ} → a1 ≡ a0 ++ p1 → a2 ≡ a1 ++ p2 → a3 ≡ a2 ++ p3 → a4 ≡ a3 ++ p4 → a5 ≡ a4 ++ p5 → a5 ≡ a0 ++ (p1 ++ p2 ++ p3 ++ p4 ++ p5)
chain5 a0 p1 p2 p3 p4 p5 e1 e2 e3 e4 e5 = after a0 (p1 ++ p2 ++ p3 ++ p4) p5 (chain4 a0 p1 p2 p3 p4 e1 e2 e3 e4) e5

pub chain6 : (a0 p1 p2 p3 p4 p5 p6 : List ℕ) {a1 a2 a3 a4 a5 a6 : List ℕ} → a1 ≡ a0 ++ p1 → a2 ≡ a1 ++ p2 → a3 ≡ a2 ++ p3 → a4 ≡ a3 ++ p4 → a5 ≡ a4 ++ p5 → a6 ≡ a5 ++ p6 → a6 ≡ a0 ++ (p1 ++ p2 ++ p3 ++ p4 ++ p5 ++ p6)
chain6 a0 p1 p2 p3 p4 p5 p6 e1 e2 e3 e4 e5 e6 = after a0 (p1 ++ p2 ++ p3 ++ p4 ++ p5) p6 (chain5 a0 p1 p2 p3 p4 p5 e1 e2 e3 e4 e5) e6

pub chain7 : (a0 p1 p2 p3 p4 p5 p6 p7 : List ℕ) {a1 a2 a3 a4 a5 a6 a7 : List ℕ} → a1 ≡ a0 ++ p1 → a2 ≡ a1 ++ p2 → a3 ≡ a2 ++ p3 → a4 ≡ a3 ++ p4 → a5 ≡ a4 ++ p5 → a6 ≡ a5 ++ p6 → a7 ≡ a6 ++ p7 → a7 ≡ a0 ++ (p1 ++ p2 ++ p3 ++ p4 ++ p5 ++ p6 ++ p7)
chain7 a0 p1 p2 p3 p4 p5 p6 p7 e1 e2 e3 e4 e5 e6 e7 = after a0 (p1 ++ p2 ++ p3 ++ p4 ++ p5 ++ p6) p7 (chain6 a0 p1 p2 p3 p4 p5 p6 e1 e2 e3 e4 e5 e6) e7

pub chain8 : (a0 p1 p2 p3 p4 p5 p6 p7 p8 : List ℕ) {a1 a2 a3 a4 a5 a6 a7 a8 : List ℕ} → a1 ≡ a0 ++ p1 → a2 ≡ a1 ++ p2 → a3 ≡ a2 ++ p3 → a4 ≡ a3 ++ p4 → a5 ≡ a4 ++ p5 → a6 ≡ a5 ++ p6 → a7 ≡ a6 ++ p7 → a8 ≡ a7 ++ p8 → a8 ≡ a0 ++ (p1 ++ p2 ++ p3 ++ p4 ++ p5 ++ p6 ++ p7 ++ p8)
chain8 a0 p1 p2 p3 p4 p5 p6 p7 p8 e1 e2 e3 e4 e5 e6 e7 e8 = after a0 (p1 ++ p2 ++ p3 ++ p4 ++ p5 ++ p6 ++ p7) p8 (chain7 a0 p1 p2 p3 p4 p5 p6 p7 e1 e2 e3 e4 e5 e6 e7) e8

pub chain9 : (a0 p1 p2 p3 p4 p5 p6 p7 p8 p9 : List ℕ) {a1 a2 a3 a4 a5 a6 a7 a8 a9 : List ℕ} → a1 ≡ a0 ++ p1 → a2 ≡ a1 ++ p2 → a3 ≡ a2 ++ p3 → a4 ≡ a3 ++ p4 → a5 ≡ a4 ++ p5 → a6 ≡ a5 ++ p6 → a7 ≡ a6 ++ p7 → a8 ≡ a7 ++ p8 → a9 ≡ a8 ++ p9 → a9 ≡ a0 ++ (p1 ++ p2 ++ p3 ++ p4 ++ p5 ++ p6 ++ p7 ++ p8 ++ p9)
chain9 a0 p1 p2 p3 p4 p5 p6 p7 p8 p9 e1 e2 e3 e4 e5 e6 e7 e8 e9 = after a0 (p1 ++ p2 ++ p3 ++ p4 ++ p5 ++ p6 ++ p7 ++ p8) p9 (chain8 a0 p1 p2 p3 p4 p5 p6 p7 p8 e1 e2 e3 e4 e5 e6 e7 e8) e9

pub chain10 : (a0 p1 p2 p3 p4 p5 p6 p7 p8 p9 p10 : List ℕ) {a1 a2 a3 a4 a5 a6 a7 a8 a9 a10 : List ℕ} → a1 ≡ a0 ++ p1 → a2 ≡ a1 ++ p2 → a3 ≡ a2 ++ p3 → a4 ≡ a3 ++ p4 → a5 ≡ a4 ++ p5 → a6 ≡ a5 ++ p6 → a7 ≡ a6 ++ p7 → a8 ≡ a7 ++ p8 → a9 ≡ a8 ++ p9 → a10 ≡ a9 ++ p10 → a10 ≡ a0 ++ (p1 ++ p2 ++ p3 ++ p4 ++ p5 ++ p6 ++ p7 ++ p8 ++ p9 ++ p10)
chain10 a0 p1 p2 p3 p4 p5 p6 p7 p8 p9 p10 e1 e2 e3 e4 e5 e6 e7 e8 e9 e10 = after a0 (p1 ++ p2 ++ p3 ++ p4 ++ p5 ++ p6 ++ p7 ++ p8 ++ p9) p10 (chain9 a0 p1 p2 p3 p4 p5 p6 p7 p8 p9 e1 e2 e3 e4 e5 e6 e7 e8 e9) e10

pub chain11 : (a0 p1 p2 p3 p4 p5 p6 p7 p8 p9 p10 p11 : List ℕ) {a1 a2 a3 a4 a5 a6 a7 a8 a9 a10 a11 : List ℕ} → a1 ≡ a0 ++ p1 → a2 ≡ a1 ++ p2 → a3 ≡ a2 ++ p3 → a4 ≡ a3 ++ p4 → a5 ≡ a4 ++ p5 → a6 ≡ a5 ++ p6 → a7 ≡ a6 ++ p7 → a8 ≡ a7 ++ p8 → a9 ≡ a8 ++ p9 → a10 ≡ a9 ++ p10 → a11 ≡ a10 ++ p11 → a11 ≡ a0 ++ (p1 ++ p2 ++ p3 ++ p4 ++ p5 ++ p6 ++ p7 ++ p8 ++ p9 ++ p10 ++ p11)
chain11 a0 p1 p2 p3 p4 p5 p6 p7 p8 p9 p10 p11 e1 e2 e3 e4 e5 e6 e7 e8 e9 e10 e11 = after a0 (p1 ++ p2 ++ p3 ++ p4 ++ p5 ++ p6 ++ p7 ++ p8 ++ p9 ++ p10) p11 (chain10 a0 p1 p2 p3 p4 p5 p6 p7 p8 p9 p10 e1 e2 e3 e4 e5 e6 e7 e8 e9 e10) e11
