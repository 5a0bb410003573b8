pub mod PieceBends
