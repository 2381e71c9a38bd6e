use Rattle.std.proofs.Common.{◌≡◌, ℕ, ◌+◌, ◌*◌, length, Ok, sym, refl, ap, subst, arith}
use Rattle.workbench.specs.Workbenches.{model_of, state}
use Rattle.sheets_theory.specs.Sheets.{sheet_bytes, WroteSheet}
use Rattle.sheets_theory.proofs.Written.{wrote_back}
use Rattle.sheets.proofs.sealed.Sealed.write_sheet.Goals as goal

pub returns : goal.returns
returns g c =
    let M = g.S.System.meaning in
    let bench = c.args.self.now.workbench in
    let s = state bench in
    let before = c.args.out.now in
    let k : ℕ = 5 * (c.move_count-moves.result + 1) in
    let bytes : k ≡ sheet_bytes (length (model_of bench).moves) = ap sheet_bytes c.move_count-moves.ensures in
    let all : WroteSheet M.number (model_of bench) before (Ok (sheet_bytes (length (model_of bench).moves))) c.write_lines.new.out = (
      omega (arith, c.if-out-moves.false, c.move_count-moves.ensures),
      refl,
      c.write_lines.ensures,
    ) in
    let wrote : WroteSheet M.number (model_of bench) before (Ok k) c.write_lines.new.out = subst (λ (n : ℕ). WroteSheet M.number (model_of bench) before (Ok n) c.write_lines.new.out) (sym bytes) all in
    record { wrote = wrote; back = wrote_back s before k c.write_lines.new.out (g.met.S.System.laws bench.system) bench.sound wrote }
