-- Two readings of one list of bytes are the same.
use Rattle.std.proofs.Common.{◌≡◌, ℕ, ◌+◌, ◌*◌, ◌/◌, ◌%◌, ◌<◌, ◌≤◌, List, [], ◌∷◌, ◌++◌, Bool, true, false, ◌||◌, IsTrue, length, refl, sym, ap, ◌∙◌, arith, append_assoc, inl, inr}
use Rattle.std.proofs.lemmas.List.{length-append}
use Rattle.component_package.specs.mote.Frames.{Frame, IsFrame, frame_bytes, stream_of, OnlyLastEnds, has_end, is_end, IsPartial}
use Rattle.component_package.specs.Laws.{FramesAreOne}

-- lists that begin alike and are as long
split_same : (a b x y : List ℕ) → length a ≡ length b → a ++ x ≡ b ++ y → (a ≡ b) × (x ≡ y)
split_same [] [] x y h e = (refl, e)
split_same [] (v ∷ b) x y h e = absurd (omega arith)
split_same (u ∷ a) [] x y h e = absurd (omega arith)
split_same (u ∷ a) (v ∷ b) x y h e =
    let hd : u ≡ v = cc in
    let tl : a ++ x ≡ b ++ y = cc in
    let r = split_same a b x y (omega arith) tl in
    ((let p : a ≡ b = r.0 in cc), r.1)

-- the length that a head gives
digits : (m n : ℕ) → m % 256 ≡ n % 256 → m / 256 ≡ n / 256 → m ≡ n
digits m n p q = omega arith

-- the first frame is the same
first_same : (f g : Frame) (x y : List ℕ) → frame_bytes f ++ x ≡ frame_bytes g ++ y → (f ≡ g) × (x ≡ y)
first_same f g x y e =
    let kind : f.kind ≡ g.kind = cc in
    let low : length f.payload % 256 ≡ length g.payload % 256 = cc in
    let high : length f.payload / 256 ≡ length g.payload / 256 = cc in
    let tail : f.payload ++ x ≡ g.payload ++ y = cc in
    let r = split_same f.payload g.payload x y (digits (length f.payload) (length g.payload) low high) tail in
    (ap (λ (k : ℕ). record f { kind = k }) kind ∙ ap (λ (p : List ℕ). record g { payload = p }) r.0, r.1)

-- a rest is no whole frame
no_frame : (f : Frame) (x r : List ℕ) → IsFrame f → frame_bytes f ++ x ≡ r → IsPartial r → ⊥
no_frame f x [] w e p = cc
no_frame f x (a ∷ []) w e p = cc
no_frame f x (a ∷ b ∷ []) w e p = cc
no_frame f x (a ∷ b ∷ d ∷ r) w e p =
    let low : length f.payload % 256 ≡ b = cc in
    let high : length f.payload / 256 ≡ d = cc in
    let tail : f.payload ++ x ≡ r = cc in
    let long : length f.payload + length x ≡ length r = sym (length-append f.payload x) ∙ ap length tail in
    let short : length f.payload ≤ 1024 = w.short in
    elim p [ inl long_head ↦ (let q : 1024 < b + 256 * d = long_head.0 in omega arith) | inr cut ↦ (let q : length r < b + 256 * d = cut.1 in omega arith) ]

or_right : (x y : Bool) → y ≡ true → (x || y) ≡ true
or_right true y h = refl
or_right false y h = h

lists_one : (fs gs : List Frame) (r s : List ℕ) → stream_of fs ++ r ≡ stream_of gs ++ s → OnlyLastEnds fs → OnlyLastEnds gs → IsPartial r → IsPartial s
    → (IsTrue (has_end fs) → r ≡ []) → (IsTrue (has_end gs) → s ≡ []) → (fs ≡ gs) × (r ≡ s)
lists_one [] [] r s e a b p q u v = (refl, e)
lists_one [] (g ∷ gs) r s e a b p q u v = absurd (no_frame g (stream_of gs ++ s) r b.0 (sym (append_assoc (frame_bytes g) (stream_of gs) s) ∙ sym e) p)
lists_one (f ∷ fs) [] r s e a b p q u v = absurd (no_frame f (stream_of fs ++ r) s a.0 (sym (append_assoc (frame_bytes f) (stream_of fs) r) ∙ e) q)
lists_one (f ∷ fs) (g ∷ gs) r s e a b p q u v =
    let k = first_same f g (stream_of fs ++ r) (stream_of gs ++ s) (sym (append_assoc (frame_bytes f) (stream_of fs) r) ∙ (e ∙ append_assoc (frame_bytes g) (stream_of gs) s)) in
    let t = lists_one fs gs r s k.1 a.2 b.2 p q (λ h. u (or_right (is_end f) (has_end fs) h)) (λ h. v (or_right (is_end g) (has_end gs) h)) in
    (ap (λ (h : Frame). h ∷ fs) k.0 ∙ ap (λ (hs : List Frame). g ∷ hs) t.0, t.1)

pub frames_one : FramesAreOne
frames_one bytes fs gs r s a b = lists_one fs gs r s (sym a.whole ∙ b.whole) a.each b.each a.rest_partial b.rest_partial a.rest_after_end b.rest_after_end
