-- A plan with the root alone is sound.
use Rattle.std.proofs.Common.{◌≡◌, ◌<◌, min, eqb, ltb, leb, List, [], map, length, take, set, None, ap, arith}
use Rattle.std.proofs.lemmas.Bool.{and_from, le-leb}
use Rattle.label.specs.Kind.{Kind}
use Rattle.plan.specs.declared.tables.Cell.{Cell}
use Rattle.plan.specs.declared.tables.Plan.{Plan}
use Rattle.plan.proofs.Rows.{first_row}
use Rattle.plan.specs.Model.{Model, model_of, struck}
use Rattle.std.specs.List.{list_all}
use Rattle.plan.specs.Sound.{Sound, all_lead, ascending, atom_limit, cell_limit, count, distinct, ends, free_limit, is_root, leads, open_name, port_links, registered, room, row_right, rows}

pub root_left : {L : Type 0} (cells : List Cell) → (length cells ≡ 0 → ⊥) → ◌≡◌ {A = Model L} (record { atoms = []; cells = take 1 (set cells 0 (record { parent = None; set = 1 })); free = []; register = [] }) struck
root_left cells h = ap (λ cs. record { atoms = []; cells = cs; free = []; register = [] }) (first_row cells (record { parent = None; set = 1 }) h)

pub struck_sound : {L : Type 0} (k : Kind L) (p : Plan L) → 0 < length p.cells.now → p.atom_count ≡ 0 → p.cell_count ≡ 1 → p.free_count ≡ 0 → p.label_count ≡ 0 → model_of p ≡ struck → Sound k p
unfolding ascending count distinct leads port_links registered rows
struck_sound {L} k p some a c f l e =
    record {
      counts =
          and_from (leb p.atom_count (room atom_limit p.atoms.now)) _ (le-leb p.atom_count (min (length p.atoms.now) 1024) (omega arith))
          (and_from (leb p.cell_count (room cell_limit p.cells.now)) _ (le-leb p.cell_count (min (length p.cells.now) 128) (omega arith))
          (and_from (leb p.free_count (room free_limit p.free.now)) _ (le-leb p.free_count (min (length p.free.now) 64) (omega arith))
          (le-leb p.label_count (min (length p.register.now) 1024) (omega arith))));
      root = ap (λ (m : Model L). is_root m.cells) e;
      depth = ap (λ (m : Model L). all_lead m.cells) e;
      sets = ap (λ (m : Model L). list_all (λ x. leb x.set 15) m.cells) e;
      labels = ap (λ (m : Model L). list_all (λ x. k.mine x.label) m.atoms) e;
      homes = ap (λ (m : Model L). list_all (λ x. ltb x.cell (length (model_of p).cells)) m.atoms) e;
      ports = ap (λ n. list_all (λ x. leb x.arity 8) (take n p.atoms.now)) a;
      links = ap (λ (m : Model L). list_all (λ x. ltb x 8256) (ends m)) e;
      pairs = ap (λ (m : Model L). list_all (λ x. eqb (count x (ends m)) 2) (ends m)) e;
      names = ap (λ (m : Model L). list_all (λ x. open_name x.name) m.free) e;
      apart = ap (λ (m : Model L). distinct (map (λ x. x.name.packed) m.free)) e;
      order = ap (λ (m : Model L). ascending k m.register) e;
      rows_right = ap (λ (m : Model L). list_all (row_right k m.atoms) m.register) e;
      complete = ap (λ (m : Model L). list_all (λ x. registered k x.label m.register) m.atoms) e;
    }
