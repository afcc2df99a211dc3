-- A body ends in one place: it goes on to no longer body, unless it goes on to the end of the connection.
use Rattle.std.proofs.Common.{◌≡◌, ◌⊎◌, inl, inr, ℕ, ◌+◌, List, [], ◌∷◌, ◌++◌, length, refl, sym, ◌∙◌, ap, subst, arith}
use Rattle.std.specs.List.{flat_map}
use Rattle.std.proofs.lemmas.List.{length-append, append_assoc, append-nil}
use Rattle.httparse.specs.Grammar.{ChunkLine, chunk_size}
use Rattle.httparse.proofs.ChunkLemmas.{chunk_line_unique, ReadsChunkLine-append}
use Rattle.httparse.proofs.GrammarLemmas.{section_unique, ReadsSection-append}
use Rattle.http_bodies.specs.Bodies.{ReadsLine, IsTrailer, ReadsChunks, IsBody}
use Rattle.http_bodies.specs.declared.framing.Framing.{Framing}
use Rattle.http_bodies.specs.declared.framing.Framing.TheVariants.{Nothing, Length, Chunked, UntilEnd}
use Rattle.http_bodies.proofs.Prefixes.{nothing}

trailer_end : (text more : List ℕ) → IsTrailer text → IsTrailer (text ++ more) → more ≡ []
trailer_end text more x y =
    (section_unique (text ++ more) x.fields y.fields x.last y.last ([] ++ more) [] (ReadsSection-append text x.fields x.last [] more x.reads) y.reads).2

-- the line of a longer text is the same, and so is what is behind it
same_line : (text more rest other : List ℕ) (a b : ChunkLine) → ReadsLine text a rest → ReadsLine (text ++ more) b other → (a ≡ b) × (rest ++ more ≡ other)
same_line text more rest other a b x y =
    chunk_line_unique (text ++ more) a b (rest ++ more) other (ReadsChunkLine-append text a rest more x.reads) y.reads

-- two fronts of one length
same_fronts : (d e x y : List ℕ) → length d ≡ length e → d ++ x ≡ e ++ y → (d ≡ e) × (x ≡ y)
same_fronts [] [] x y len same = (refl, same)
same_fronts [] (b ∷ e) x y len same = absurd (omega (arith, len))
same_fronts (a ∷ d) [] x y len same = absurd (omega (arith, len))
same_fronts (a ∷ d) (b ∷ e) x y len same =
    let head : a ≡ b = cc in
    let tails : d ++ x ≡ e ++ y = cc in
    let rest = same_fronts d e x y (omega (arith, len)) tails in
    ((λ i. head i ∷ rest.0 i), rest.1)

-- the first chunk of a longer text is the same, and so is what is behind it
same_chunk : (a b : ℕ) (d e : List ℕ) (ds es : List (List ℕ)) (text more : List ℕ) (x : ReadsChunks a (d ∷ ds) text)
    (y : ReadsChunks b (e ∷ es) (text ++ more)) → (d ≡ e) × (x.2 ++ more ≡ y.2)
same_chunk a b d e ds es text more x y =
    let same = same_line text more x.1 y.1 x.0 y.0 x.4 y.4 in
    let size = sym x.6 ∙ (ap chunk_size same.0 ∙ y.6) in
    let joined : d ++ (13 ∷ 10 ∷ x.2 ++ more) ≡ e ++ (13 ∷ 10 ∷ y.2) = sym (append_assoc d (13 ∷ 10 ∷ x.2) more) ∙ (ap (λ (l : List ℕ). l ++ more) (sym x.8) ∙ (same.1 ∙ y.8)) in
    let fronts = same_fronts d e (13 ∷ 10 ∷ x.2 ++ more) (13 ∷ 10 ∷ y.2) size joined in
    let back = fronts.1 in
    let next : x.2 ++ more ≡ y.2 = cc in
    (fronts.0, next)

chunks_end : (a b : ℕ) (ds es : List (List ℕ)) (text more : List ℕ) → ReadsChunks a ds text → ReadsChunks b es (text ++ more) → more ≡ []
chunks_end a b [] [] text more x y =
    let same = same_line text more x.1 y.1 x.0 y.0 x.2 y.2 in
    trailer_end x.1 more x.5 (subst (λ (t : List ℕ). IsTrailer t) (sym same.1) y.5)
chunks_end a b [] (e ∷ es) text more x y =
    let same = same_line text more x.1 y.1 x.0 y.0 x.2 y.4 in
    let size = sym x.4 ∙ (ap chunk_size same.0 ∙ y.6) in
    absurd (omega (arith, size, y.7))
chunks_end a b (d ∷ ds) [] text more x y =
    let same = same_line text more x.1 y.1 x.0 y.0 x.4 y.2 in
    let size = sym x.6 ∙ (ap chunk_size same.0 ∙ y.4) in
    absurd (omega (arith, size, x.7))
chunks_end a b (d ∷ ds) (e ∷ es) text more x y =
    let behind = same_chunk a b d e ds es text more x y in
    chunks_end x.3 y.3 ds es x.2 more x.9 (subst (λ (t : List ℕ). ReadsChunks y.3 es t) (sym behind.1) y.9)

pub one_end : (framing : Framing) (text more body other : List ℕ) → IsBody framing text body → IsBody framing (text ++ more) other → (more ≡ []) ⊎ (framing ≡ UntilEnd)
one_end Nothing text more body other x y =
    inl (nothing more (let none = ap length y.0 in omega (arith, none, length-append text more)))
one_end (Length n) text more body other x y =
    inl (nothing more (let a = ap length x.0 in let b = ap length y.0 in omega (arith, a, b, x.1, y.1, length-append text more)))
one_end Chunked text more body other x y = inl (chunks_end 32768 32768 x.0 y.0 text more x.1 y.1)
one_end UntilEnd text more body other x y = inr refl

-- ---- one body

same_datas : (a b : ℕ) (ds es : List (List ℕ)) (text more : List ℕ) → ReadsChunks a ds text → ReadsChunks b es (text ++ more) → ds ≡ es
same_datas a b [] [] text more x y = refl
same_datas a b [] (e ∷ es) text more x y =
    let same = same_line text more x.1 y.1 x.0 y.0 x.2 y.4 in
    let size = sym x.4 ∙ (ap chunk_size same.0 ∙ y.6) in
    absurd (omega (arith, size, y.7))
same_datas a b (d ∷ ds) [] text more x y =
    let same = same_line text more x.1 y.1 x.0 y.0 x.4 y.2 in
    let size = sym x.6 ∙ (ap chunk_size same.0 ∙ y.4) in
    absurd (omega (arith, size, x.7))
same_datas a b (d ∷ ds) (e ∷ es) text more x y =
    let chunk = same_chunk a b d e ds es text more x y in
    let rest = same_datas x.3 y.3 ds es x.2 more x.9 (subst (λ (t : List ℕ). ReadsChunks y.3 es t) (sym chunk.1) y.9) in
    λ i. chunk.0 i ∷ rest i

-- a text is one body
pub one_meaning : (framing : Framing) (text body other : List ℕ) → IsBody framing text body → IsBody framing text other → body ≡ other
one_meaning Nothing text body other x y = x.1 ∙ sym y.1
one_meaning (Length n) text body other x y = sym x.0 ∙ y.0
one_meaning Chunked text body other x y =
    let datas = same_datas 32768 32768 x.0 y.0 text [] x.1 (subst (λ (t : List ℕ). ReadsChunks 32768 y.0 t) (sym (append-nil text)) y.1) in
    x.2 ∙ ap (λ (ds : List (List ℕ)). flat_map (λ d. d) ds) datas ∙ sym y.2
one_meaning UntilEnd text body other x y = sym x ∙ y
