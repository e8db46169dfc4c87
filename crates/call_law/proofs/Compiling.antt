-- What the compiler gives is a program of its text; and the text has one meaning.
use Rattle.std.proofs.Common.{◌≡◌, ℕ, ◌≤◌, Bool, true, false, List, length, refl, sym, ap, ◌∙◌}
use Rattle.std.proofs.Common.{subst, arith}
use Rattle.std.specs.Prelude.{map, nat_lt, if◌then◌else◌}
use Rattle.std.proofs.lemmas.Bool.{ltb-true}
use Rattle.pmem.specs.Device.{Device, blanked}
use Rattle.pmem.specs.Played.{PlaysAll}
use Rattle.pool_layout.specs.declared.limits.Sizes.{Sizes}
use Rattle.pool_layout.specs.Sizes.{pool_lines}
use Rattle.pool_map.specs.PoolFits.{words_of}
use Rattle.pool_map.specs.declared.limits.TheConstants.{ROOT_WORDS}
use Rattle.args_log.specs.Created.{creation_events}
use Rattle.c_lexer.specs.declared.token.Placed.{Placed}
use Rattle.c_lexer.specs.TokenList.{Tokens}
use Rattle.c_tree.specs.ItemTree.{ItemTree}
use Rattle.c_types.specs.Tables.{tables_of}
use Rattle.c_types.specs.Shapes.{shapes_in, shapes_of}
use Rattle.ir.specs.declared.function.Ir.{Ir}
use Rattle.ir.specs.WellFormed.{IsWellFormed}
use Rattle.clobber_pass.specs.Logged.{IsExact}
use Rattle.tree_law.proofs.checked.Laws as checked
use Rattle.cnvm_session.specs.declared.program.Program.{Program}
use Rattle.cnvm_session.specs.Pool.{sizes_of}
use Rattle.compiled_law.specs.Law.{IsCompiledFrom}
use Rattle.user_law.specs.Run.{TextMeaning}
use Rattle.text_law.specs.Law.{IsOfText, IsMeaningOf}
use Rattle.text_law.proofs.Meaning.{text_law}
use Rattle.session_run.specs.Made.{Created}
use Rattle.cnvm_compile.specs.declared.asked.Asked.{Asked}
use Rattle.cnvm_compile.specs.declared.compiling.Compiled.{Compiled}
use Rattle.cnvm_compile.specs.Compilation.{IsCompiled}
use Rattle.cnvm_compile.specs.Made.{image_of}
use Rattle.cnvm_compile.specs.SizesAsked.{within, HasRoot}
use Rattle.cnvm_compile.proofs.Once.{lists_same}
use Rattle.call_law.specs.Call.{IsPoolOf}
use Rattle.call_law.specs.Law.{IsTextMeaning, MeaningLaw}

-- `within` leaves a number within the limits as it is
within_same : (most n : ℕ) → 1 ≤ n → n ≤ most → within 1 most n ≡ n
within_same most n low high = by_least (nat_lt n 1) refl (nat_lt most n) refl
  where
    by_least : (a : Bool) → nat_lt n 1 ≡ a → (b : Bool) → nat_lt most n ≡ b
        → (if a then 1 else (if b then most else n)) ≡ n
    by_least true e b f = absurd (omega (arith, ltb-true n 1 e, low))
    by_least false e true f = absurd (omega (arith, ltb-true most n f, high))
    by_least false e false f = refl

module _ (asked : Asked) (text : List ℕ) (compiled : Compiled)
    (is : IsCompiled asked text compiled) where
  abbrev program : Program
  program = compiled.program

  pub compiled_from : (list : Tokens) × IsCompiledFrom text list program
  compiled_from =
      let has = is.accepted.0 in
      let least : 1 ≤ words_of (shapes_of program.typed).root =
      checked.root program.typed has.0.tokens has.2.spelled is.accepted.1 in
      let most : words_of (shapes_of program.typed).root ≤ ROOT_WORDS =
      (checked.shapes program.typed is.accepted.1).root in (
        has.0,
        record {
          left = has.1;
          spelled = has.2.spelled;
          lines = has.2.lines;
          checked = is.accepted.1;
          formed = subst IsWellFormed is.ir is.well_formed;
          marks = compiled.marks;
          exact = subst (λ (x : Ir). IsExact x.functions compiled.marks) is.ir is.marks;
          root = is.root
              ∙ within_same ROOT_WORDS (words_of (shapes_of program.typed).root) least most;
          width = is.width;
          made = is.code ∙ ap (λ (x : Ir). image_of compiled.marks x (sizes_of program)
              (length program.typed.lines)) is.ir;
        },
      )

-- the meaning by one program of a text is that by each
moved : (text : List ℕ) (first other : Program) (meaning : TextMeaning text)
    → IsOfText text first other → IsMeaningOf text first meaning → IsMeaningOf text other meaning
moved text first other meaning of means = record {
  items = means.items ∙ sym of.items;
  source = λ q is. means.source q (joined q is);
  counts = λ q is. means.counts q (joined q is);
}
  where
    joined : (q : Program) → IsOfText text other q → IsOfText text first q
    joined q is = record {
      list = is.list;
      compiled = is.compiled;
      items = is.items ∙ of.items;
      lines = is.lines ∙ of.lines;
      last = is.last ∙ of.last;
    }

-- two programs of a text have the same declarations and lines
pub of_text : (text : List ℕ) (given asked : Asked) (first compiled : Compiled)
    → IsCompiled given text first → IsCompiled asked text compiled
    → IsOfText text first.program compiled.program
of_text text given asked first compiled one two =
    let had = one.accepted.0 in
    let has = two.accepted.0 in
    let from = compiled_from asked text compiled two in
    let same : has.0 ≡ had.0 = lists_same text has.0 had.0 has.1 had.1 in
    record {
      list = from.0;
      compiled = from.1;
      items = two.only.only first.program.typed had;
      lines = has.2.lines
          ∙ ap (λ (l : Tokens). map (λ (placed : Placed). placed.line) l.tokens) same
          ∙ sym had.2.lines;
      last = has.2.last ∙ ap (λ (l : Tokens). l.last) same ∙ sym had.2.last;
    }

pub meaning_law : MeaningLaw
meaning_law given text is =
    let from = compiled_from given text is.0 is.1 in
    let means = text_law text from.0 is.0.program from.1 in (
      means.0,
      λ (asked : Asked) (compiled : Compiled) (has : IsCompiled asked text compiled).
          moved text is.0.program compiled.program means.0
          (of_text text given asked is.0 compiled is.1 has) means.1,
    )

module _ (asked : Asked) (text : List ℕ) (compiled : Compiled)
    (is : IsCompiled asked text compiled) (meaning : TextMeaning text)
    (means : IsTextMeaning text meaning) where
  abbrev s : Sizes
  s = sizes_of compiled.program

  -- the pool that is made for the program is the one of the text
  pub pool_made : (d b : Device) → Created compiled.program d b
      → IsPoolOf asked text meaning s d b
  pool_made d b made =
      record {
        numbers = is.sizes;
        root = subst (λ (xs : List ItemTree). HasRoot (shapes_in (tables_of xs)) s)
            (sym (means asked compiled is).items) is.root;
        made = subst (λ digest. PlaysAll (blanked (pool_lines s) d) (creation_events s digest) b)
            is.digest made;
      }
